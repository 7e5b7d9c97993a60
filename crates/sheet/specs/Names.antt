-- The places of the version sheet's numbers (docs/FORMAT.md, "The version sheet"). Assumes nothing:
-- these are definitions.
use Rattle.std.specs.Prelude.{ℕ}

abbrev pub k_new_object : ℕ
k_new_object = 0

abbrev pub k_backref : ℕ
k_backref = 1

abbrev pub k_root_array : ℕ
k_root_array = 2

abbrev pub k_attached_reference : ℕ
k_attached_reference = 3

abbrev pub k_synchronize : ℕ
k_synchronize = 4

abbrev pub k_nop : ℕ
k_nop = 5

abbrev pub k_hot_object : ℕ
k_hot_object = 6

abbrev pub k_root_array_constants : ℕ
k_root_array_constants = 7

abbrev pub k_fixed_raw_data : ℕ
k_fixed_raw_data = 8

abbrev pub k_next_chunk : ℕ
k_next_chunk = 9

abbrev pub k_alignment_prefix : ℕ
k_alignment_prefix = 10

abbrev pub k_hot_object_with_skip : ℕ
k_hot_object_with_skip = 11

abbrev pub k_root_array_constants_with_skip : ℕ
k_root_array_constants_with_skip = 12

abbrev pub k_read_only_heap_ref : ℕ
k_read_only_heap_ref = 13

abbrev pub k_builtin : ℕ
k_builtin = 14

abbrev pub k_external_reference : ℕ
k_external_reference = 15

abbrev pub k_api_reference : ℕ
k_api_reference = 16

abbrev pub k_internal_reference : ℕ
k_internal_reference = 17

abbrev pub k_internal_reference_encoded : ℕ
k_internal_reference_encoded = 18

abbrev pub k_deoptimizer_entry_plain : ℕ
k_deoptimizer_entry_plain = 19

abbrev pub k_deoptimizer_entry_from_code : ℕ
k_deoptimizer_entry_from_code = 20

abbrev pub k_off_heap_backing_store : ℕ
k_off_heap_backing_store = 21

abbrev pub k_variable_raw_code : ℕ
k_variable_raw_code = 22

abbrev pub k_embedder_fields_data : ℕ
k_embedder_fields_data = 23

abbrev pub k_off_heap_target : ℕ
k_off_heap_target = 24

abbrev pub k_partial_snapshot_cache : ℕ
k_partial_snapshot_cache = 25

abbrev pub k_startup_object_cache : ℕ
k_startup_object_cache = 26

abbrev pub k_read_only_object_cache : ℕ
k_read_only_object_cache = 27

abbrev pub k_shared_heap_object_cache : ℕ
k_shared_heap_object_cache = 28

abbrev pub k_register_pending_forward_ref : ℕ
k_register_pending_forward_ref = 29

abbrev pub k_cleared_weak_reference : ℕ
k_cleared_weak_reference = 30

abbrev pub k_weak_prefix : ℕ
k_weak_prefix = 31

abbrev pub k_indirect_pointer_prefix : ℕ
k_indirect_pointer_prefix = 32

abbrev pub k_protected_pointer_prefix : ℕ
k_protected_pointer_prefix = 33

abbrev pub k_initialize_self_indirect_pointer : ℕ
k_initialize_self_indirect_pointer = 34

abbrev pub k_allocate_js_dispatch_entry : ℕ
k_allocate_js_dispatch_entry = 35

abbrev pub k_js_dispatch_entry : ℕ
k_js_dispatch_entry = 36

abbrev pub k_variable_raw_data : ℕ
k_variable_raw_data = 37

abbrev pub k_skip : ℕ
k_skip = 38

abbrev pub k_fixed_repeat : ℕ
k_fixed_repeat = 39

abbrev pub k_fixed_repeat_root : ℕ
k_fixed_repeat_root = 40

abbrev pub k_variable_repeat : ℕ
k_variable_repeat = 41

abbrev pub k_variable_repeat_root : ℕ
k_variable_repeat_root = 42

abbrev pub k_new_meta_map : ℕ
k_new_meta_map = 43

abbrev pub k_new_contextless_meta_map : ℕ
k_new_contextless_meta_map = 44

abbrev pub k_new_contextful_meta_map : ℕ
k_new_contextful_meta_map = 45

abbrev pub k_resolve_pending_forward_ref : ℕ
k_resolve_pending_forward_ref = 46

abbrev pub k_deferred : ℕ
k_deferred = 47

abbrev pub k_number_of_spaces : ℕ
k_number_of_spaces = 48

abbrev pub k_map_space : ℕ
k_map_space = 49

abbrev pub k_lo_space : ℕ
k_lo_space = 50

abbrev pub k_root_array_constants_mask : ℕ
k_root_array_constants_mask = 51

abbrev pub k_space_tag_size : ℕ
k_space_tag_size = 52

abbrev pub k_page_size_bits : ℕ
k_page_size_bits = 53

abbrev pub k_space_mask : ℕ
k_space_mask = 54

abbrev pub k_backref_with_skip : ℕ
k_backref_with_skip = 55

abbrev pub tagged_size : ℕ
tagged_size = 56

abbrev pub var_raw_advances : ℕ
var_raw_advances = 57
