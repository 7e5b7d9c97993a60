-- What a usable sheet gives, clause by clause. `usable_gives` in proofs/UsableSheet.antt proves it
-- from `usable v ≡ true`. Assumes nothing: these are definitions.
use Rattle.std.specs.Prelude.{◌≡◌, true, List, ◌⊎◌, ℕ, ◌+◌, ◌<◌, ◌≤◌, length}
use Rattle.sheet.specs.Names.{k_new_object, k_backref, k_hot_object, k_root_array_constants, k_fixed_raw_data, k_alignment_prefix, k_hot_object_with_skip, k_root_array_constants_with_skip, k_fixed_repeat, k_fixed_repeat_root, k_backref_with_skip}
use Rattle.sheet.specs.Sheet.{number, present, number_of_spaces, root_mask, space_tag_size, page_size_bits, word_bytes, is_legacy, is_six_x}

-- the first byte after the span of n bytes of the name at place k is at most 255, where the name
-- is present
abbrev pub SpanFits : List ℕ → ℕ → ℕ → Type 0
SpanFits v k n = present v k ≡ true → number v k + n ≤ 255

pub record Usable (v : List ℕ) : Type 0 where
  pub size : length v ≡ 58
  pub word : (word_bytes v ≡ 4) ⊎ (word_bytes v ≡ 8)
  pub numbers : (k : ℕ) → k < 56 → (number v k ≤ 255) ⊎ (number v k ≡ 65535)
  pub required : (k : ℕ) → k < 9 → number v k ≤ 255
  pub tag_size_low : 1 ≤ space_tag_size v
  pub tag_size_high : space_tag_size v ≤ 16
  pub page_bits_low : 3 ≤ page_size_bits v
  pub page_bits_high : page_size_bits v ≤ 28
  pub six_x_legacy : is_six_x v ≡ true → is_legacy v ≡ true
  pub hot_object : SpanFits v k_hot_object 8
  pub hot_object_with_skip : SpanFits v k_hot_object_with_skip 8
  pub root_constants : SpanFits v k_root_array_constants (root_mask v + 1)
  pub root_constants_with_skip : SpanFits v k_root_array_constants_with_skip (root_mask v + 1)
  pub fixed_raw_data : SpanFits v k_fixed_raw_data 32
  pub fixed_repeat_lem : SpanFits v k_fixed_repeat 16
  pub fixed_repeat_root_lem : SpanFits v k_fixed_repeat_root 16
  pub alignment_prefix : SpanFits v k_alignment_prefix 3
  pub new_object_lem : is_legacy v ≡ true → SpanFits v k_new_object (number_of_spaces v)
  pub backref : is_legacy v ≡ true → SpanFits v k_backref (number_of_spaces v)
  pub backref_with_skip : is_legacy v ≡ true → SpanFits v k_backref_with_skip (number_of_spaces v)
