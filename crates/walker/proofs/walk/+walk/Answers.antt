-- The goals of the nine readers that the search leaves, each by its laws in proofs/.
use Rattle.std.proofs.Common.{◌-◌, length, refl, ap, ◌∙◌, arith}
use Rattle.std.proofs.lemmas.Bool.{false≢true}
use native.Mathlib.Nat.{mul-mod_left}
use Rattle.sheet.specs.Names.{k_deferred, k_resolve_pending_forward_ref}
use Rattle.definition.specs.Reference.{ref_at}
use Rattle.readers.specs.Views.{Lent, mem}
use Rattle.readers.specs.Lent.{input_of, lent_of, HeadAt}
use Rattle.objects.proofs.HeadLaws.{bytes_small}
use Rattle.objects.proofs.AnswerLaws.{fixed_refl, passed_on}
use Rattle.objects.proofs.ResolveLaws.{resolves_stop}
use Rattle.walker.proofs.ScratchLaws.{after_on}
use Rattle.walker.proofs.ReadyLaws.{moved_ready, value_ready}
use Rattle.walker.proofs.ItemsLaws.{tag_is}
use Rattle.walker.proofs.ReferenceLaws.{ref_deep, ref_cut, new_at, ref_object, space_low, other_simple, other_asks, other_counts, inner_starts, ref_refused, ref_simple, ref_root, ref_inner_no, head_read, ref_inner_got, read_as}
use Rattle.walker.proofs.NestLaws.{object_headless, object_whole, object_opened, object_items, nest_first, opens_no, opens_on, nest_over, nest_whole, nest_deferred, nest_slot_no, nest_slot, nest_begins, put_fits, nest_roomless, nest_ends}
use Rattle.walker.proofs.LeafLaws.{one_level, leaf_slot, weak_slot, ready_still, leaf_after}
use Rattle.walker.proofs.MapLaws.{record_ready, mapped_no, followed_no, map_asks, kept_no, resolves_ready, map_ended, put_asks, item_put, leaf_opened, leaf_no, leaf_on, leaf_ended}
use Rattle.walker.proofs.walk.+walk.Goals as goal

-- ---- parse_head

pub parse_head-resolves-requires-clause-usable : goal.parse_head-resolves-requires-clause-usable
parse_head-resolves-requires-clause-usable t c =
    let a = c.args in
    let r = c.in-Some.ensures in
    let g = leaf_opened c.requires.ready a.d a.new c.requires.depth.1 r.read r.rest (r.indexed c.requires.ready.indexed) r.linked in
    (g.proper.sheet_usable, g.sound.within, g.sound.long_low)

pub parse_head-resolves-requires-clause-waits : goal.parse_head-resolves-requires-clause-waits
parse_head-resolves-requires-clause-waits t c =
    let a = c.args in
    let r = c.in-Some.ensures in
    let g = leaf_opened c.requires.ready a.d a.new c.requires.depth.1 r.read r.rest (r.indexed c.requires.ready.indexed) r.linked in
    (omega (arith, g.sound.slots_fit), g.indexed, g.numbered)

pub parse_head-returns-in_err-u-clause-is : goal.parse_head-returns-in_err-u-clause-is
parse_head-returns-in_err-u-clause-is t c =
    let a = c.args in
    let r = c.in-Some.ensures in
    passed_on _ _ _ c.from_residual.ensures.1 ∙ leaf_no c.requires.ready a.d a.new c.requires.depth.1 r.read r.rest c.in_err-u.ensures.is

pub parse_head-returns-then-not-is_tag-clause-is : goal.parse_head-returns-then-not-is_tag-clause-is
parse_head-returns-then-not-is_tag-clause-is t c =
    let a = c.args in
    let w = c.open_leaf.new.w in
    let u = c.in-Some.t in
    let r = c.in-Some.ensures in
    let e = tag_is k_resolve_pending_forward_ref w.sheet.now w.payload.now u.at c.peek.ensures c.is_tag.ensures ∙ c.if-not-is_tag.true in
    leaf_on c.requires.ready a.d a.new c.requires.depth.1 r.read r.rest (resolves_stop (input_of w) a.s.objects (mem u (lent_of w)) (length w.payload.now - u.at) e) (rw (r.rest.0.sheet) at c.word_bytes.ensures.0)

pub parse_head-returns-then-not-is_tag-clause-after : goal.parse_head-returns-then-not-is_tag-clause-after
parse_head-returns-then-not-is_tag-clause-after t c =
    let a = c.args in
    let w = c.open_leaf.new.w in
    let u = c.in-Some.t in
    let r = c.in-Some.ensures in
    let e = tag_is k_resolve_pending_forward_ref w.sheet.now w.payload.now u.at c.peek.ensures c.is_tag.ensures ∙ c.if-not-is_tag.true in
    let i = r.indexed c.requires.ready.indexed in
    leaf_ended c.requires.ready a.d a.new c.requires.depth.1 r.read r.rest i r.linked (resolves_stop (input_of w) a.s.objects (mem u (lent_of w)) (length w.payload.now - u.at) e) i (fixed_refl w, (refl, refl))

pub parse_head-returns-in-Some-clause-is : goal.parse_head-returns-in-Some-clause-is
parse_head-returns-in-Some-clause-is t c =
    let a = c.args in
    let r = c.in-Some.ensures in
    leaf_on c.requires.ready a.d a.new c.requires.depth.1 r.read r.rest c.in_ok-u.ensures.is (rw (r.rest.0.sheet) at c.word_bytes.ensures.0)

pub parse_head-returns-in-Some-clause-after : goal.parse_head-returns-in-Some-clause-after
parse_head-returns-in-Some-clause-after t c =
    let a = c.args in
    let r = c.in-Some.ensures in
    let q = c.in_ok-u.ensures in
    leaf_ended c.requires.ready a.d a.new c.requires.depth.1 r.read r.rest (r.indexed c.requires.ready.indexed) r.linked q.is q.index q.kept

pub parse_head-parse_long_head-requires : goal.parse_head-parse_long_head-requires
parse_head-parse_long_head-requires t c =
    let n = c.open_leaf.ensures in
    let s = c.in_default.ensures.none refl in
    (omega arith, (ready_still (n.rest.0, (n.rest.1, s.1)) s.0 c.requires.ready, c.requires.depth))

-- ---- parse_long_head

pub parse_long_head-parse_map-requires : goal.parse_long_head-parse_map-requires
parse_long_head-parse_map-requires t c =
    let a = c.args in
    let q = c.in_ok-words.ensures in
    let z = record_ready c.requires.ready a.new.space a.new.tag q.kept q.is in
    (omega arith, (z.0, (c.requires.depth.0, c.requires.depth.1, bytes_small _ c.requires.ready.proper.sheet_usable c.word_bytes-word.ensures.0 q.small, z.1, rw (q.kept.0.sheet, c.word_bytes-word.ensures.0) (mul-mod_left _ _))))

pub parse_long_head-returns-clause-small : goal.parse_long_head-returns-clause-small
parse_long_head-returns-clause-small t c = bytes_small _ c.requires.ready.proper.sheet_usable c.word_bytes-word.ensures.0 c.in_ok-words.ensures.small

-- ---- parse_inner

pub parse_inner-returns-in-Some-clause-is : goal.parse_inner-returns-in-Some-clause-is
parse_inner-returns-in-Some-clause-is t c =
    let a = c.args in
    let x = input_of a.w.now in
    c.in-Some.ensures.read c.requires.ready.decoded (ref_at x (63 - a.d)) ∙ one_level x a.d (mem a.s (lent_of a.w.now)) c.if-d-lt-DEEPEST.true

pub parse_inner-returns-in-Some-clause-after : goal.parse_inner-returns-in-Some-clause-after
parse_inner-returns-in-Some-clause-after t c = let r = c.in-Some.ensures in leaf_after c.requires.ready _ r.kept r.order

-- ---- parse_item

pub parse_item-returns-in-Some-clause-is : goal.parse_item-returns-in-Some-clause-is
parse_item-returns-in-Some-clause-is t c =
    let a = c.args in
    let x = input_of a.w.now in
    let r = c.in-Some.ensures in
    r.read.1 c.requires.ready.decoded (ref_at x (63 - a.d)) ∙ leaf_slot x a.d (mem a.s (lent_of a.w.now)) a.level r.read.0

-- ---- parse_map

pub parse_map-returns-in_err-map-clause-is : goal.parse_map-returns-in_err-map-clause-is
parse_map-returns-in_err-map-clause-is t c =
    let a = c.args in
    passed_on _ _ _ c.from_residual.ensures.1 ∙ mapped_no c.requires.ready a.d a.new.space a.level c.requires.depth c.in_err-map.ensures.is

pub parse_map-after_map-requires-clause-sheet_value : goal.parse_map-after_map-requires-clause-sheet_value
parse_map-after_map-requires-clause-sheet_value t c =
    let b = c.requires.depth in
    let r = c.in_ok-map.ensures in
    let g = value_ready c.requires.ready (64 - c.args.d) r.after r.is in
    (g.proper.sheet_usable, b.1, b.2, g.sound.within, g.proper.short)

pub parse_map-after_map-requires-clause-linked_before : goal.parse_map-after_map-requires-clause-linked_before
parse_map-after_map-requires-clause-linked_before t c =
    let r = c.in_ok-map.ensures in
    let g = value_ready c.requires.ready (64 - c.args.d) r.after r.is in
    (g.counted.chunk_low c.args.new.space, g.linked)

pub parse_map-returns-in_err-u-clause-is : goal.parse_map-returns-in_err-u-clause-is
parse_map-returns-in_err-u-clause-is t c =
    let a = c.args in
    let r = c.in_ok-map.ensures in
    passed_on _ _ _ c.from_residual-in_err-u.ensures.1 ∙ followed_no c.requires.ready a.d a.new.space a.level c.requires.depth r.after r.is c.in_err-u.ensures.is

pub parse_map-keep_map-requires : goal.parse_map-keep_map-requires
parse_map-keep_map-requires t c =
    let a = c.args in
    let r = c.in_ok-map.ensures in
    let q = c.in_ok-u.ensures in
    map_asks c.requires.ready a.d a.new.space a.level c.requires.depth r.after r.is q.is q.rest (omega arith)

pub parse_map-returns-in_err-y-clause-is : goal.parse_map-returns-in_err-y-clause-is
parse_map-returns-in_err-y-clause-is t c =
    let a = c.args in
    let r = c.in_ok-map.ensures in
    let q = c.in_ok-u.ensures in
    passed_on _ _ _ c.from_residual-in_err-y.ensures.1 ∙ kept_no c.requires.ready a.d a.new.space a.level c.requires.depth r.after r.is q.is q.rest c.in_err-y.ensures.is

pub parse_map-resolves-requires-clause-usable : goal.parse_map-resolves-requires-clause-usable
parse_map-resolves-requires-clause-usable t c =
    let a = c.args in
    let r = c.in_ok-map.ensures in
    let q = c.in_ok-u.ensures in
    let k = c.in_ok-y.ensures in
    let g = resolves_ready c.requires.ready a.d a.new.space a.level c.requires.depth r.after r.is q.is q.rest q.linked k.is k.kept in
    (g.proper.sheet_usable, g.sound.within, g.sound.long_low)

pub parse_map-resolves-requires-clause-waits : goal.parse_map-resolves-requires-clause-waits
parse_map-resolves-requires-clause-waits t c =
    let a = c.args in
    let r = c.in_ok-map.ensures in
    let q = c.in_ok-u.ensures in
    let k = c.in_ok-y.ensures in
    let g = resolves_ready c.requires.ready a.d a.new.space a.level c.requires.depth r.after r.is q.is q.rest q.linked k.is k.kept in
    (omega (arith, g.sound.slots_fit), g.indexed, g.numbered)

pub parse_map-returns : goal.parse_map-returns
parse_map-returns t c =
    let a = c.args in
    let r = c.in_ok-map.ensures in
    let q = c.in_ok-u.ensures in
    let k = c.in_ok-y.ensures in
    let y = c.resolves.ensures in
    let z = map_ended c.requires.ready a.d a.new.space a.level c.requires.depth r.after r.is q.is q.rest q.linked k.is k.kept c.resolves.result y.is y.index y.kept in
    record { is = z.0; after = z.1 }

-- ---- parse_object

pub parse_object-returns-in_err-level-clause-is : goal.parse_object-returns-in_err-level-clause-is
parse_object-returns-in_err-level-clause-is t c =
    passed_on _ _ _ c.from_residual.ensures.1 ∙ object_headless c.args.d c.args.new c.requires.ready c.requires.depth c.in_err-level.ensures.is

pub parse_object-returns-then-level-clause-is : goal.parse_object-returns-then-level-clause-is
parse_object-returns-then-level-clause-is t c =
    let r = c.in_ok-level.ensures in
    object_whole c.args.d c.args.new c.requires.ready c.requires.depth r.is r.small r.after c.if-level.true

pub parse_object-parse_items-requires : goal.parse_object-parse_items-requires
parse_object-parse_items-requires t c =
    let r = c.in_ok-level.ensures in
    let z = object_opened c.args.d c.args.new c.requires.ready c.requires.depth r.is r.small r.after in
    (omega arith, (z.0, (c.requires.depth.0, z.1)))

pub parse_object-returns-in_err-object-clause-is : goal.parse_object-returns-in_err-object-clause-is
parse_object-returns-in_err-object-clause-is t c =
    let r = c.in_ok-level.ensures in
    passed_on _ _ _ c.from_residual-in_err-object.ensures.1 ∙ object_items c.args.d c.args.new c.requires.ready c.requires.depth r.is r.small r.after c.in_err-object.ensures.is

pub parse_object-returns-clause-is : goal.parse_object-returns-clause-is
parse_object-returns-clause-is t c =
    let r = c.in_ok-level.ensures in
    object_items c.args.d c.args.new c.requires.ready c.requires.depth r.is r.small r.after c.in_ok-object.ensures.is

pub parse_object-returns-clause-after : goal.parse_object-returns-clause-after
parse_object-returns-clause-after t c = after_on c.in_ok-level.ensures.after.fixed c.in_ok-object.ensures.after

-- ---- parse_items

pub parse_items-loop-level-init : goal.parse_items-loop-level-init
parse_items-loop-level-init t c =
    let a = c.args in
    rw c.new-outer.ensures (nest_first a.d a.whole c.requires.ready (omega arith) c.requires.opened.0 c.requires.opened.1)

-- an object that is full

pub parse_items-returns-then-level-2-clause-is : goal.parse_items-returns-then-level-2-clause-is
parse_items-returns-then-level-2-clause-is t c =
    rw c.refused_at.ensures (nest_over c.loop-level.invariant c.if-level.true c.if-level-2.true)

pub parse_items-returns-in_default-clause-is : goal.parse_items-returns-in_default-clause-is
parse_items-returns-in_default-clause-is t c =
    nest_whole c.loop-level.invariant c.if-level-2.false (λ b. false≢true (c.in_default.ensures.variant.1 b))

pub parse_items-put_object-requires-clause-fits : goal.parse_items-put_object-requires-clause-fits
parse_items-put_object-requires-clause-fits t c = put_fits c.loop-level.invariant c.if-level-2.false _ _ c.in-Some.ensures.items

pub parse_items-put_object-requires-clause-counted : goal.parse_items-put_object-requires-clause-counted
parse_items-put_object-requires-clause-counted t c =
    let g = c.loop-level.invariant.inside.ready in
    omega (arith, c.loop-level.invariant.inside.few, g.counted.count_low c.in-Some.around.object, g.sound.slots_fit)

pub parse_items-returns-in_err-done-clause-is : goal.parse_items-returns-in_err-done-clause-is
parse_items-returns-in_err-done-clause-is t c =
    passed_on _ _ _ c.from_residual.ensures.1
    ∙ nest_roomless c.loop-level.invariant c.if-level-2.false _ _ c.in-Some.ensures.items c.in_err-done.ensures.is

pub parse_items-loop-level-smaller-then-level : goal.parse_items-loop-level-smaller-then-level
parse_items-loop-level-smaller-then-level t c =
    let q = c.in_ok-done.ensures in
    let z = nest_ends c.loop-level.invariant c.if-level-2.false _ _ c.in-Some.ensures.items q.is q.kept in
    rw q.kept.0.payload (omega (arith, c.in-Some.ensures.len, z.1))

pub parse_items-loop-level-preserved-then-level : goal.parse_items-loop-level-preserved-then-level
parse_items-loop-level-preserved-then-level t c =
    let q = c.in_ok-done.ensures in
    (nest_ends c.loop-level.invariant c.if-level-2.false _ _ c.in-Some.ensures.items q.is q.kept).0

-- kDeferred

pub parse_items-loop-level-smaller-then-is_tag : goal.parse_items-loop-level-smaller-then-is_tag
parse_items-loop-level-smaller-then-is_tag t c =
    let z = nest_deferred c.loop-level.invariant (omega arith) (tag_is k_deferred c.loop-level.w.sheet.now c.loop-level.w.payload.now c.loop-level.t.at c.peek.ensures c.is_tag.ensures ∙ c.if-is_tag.true) in
    let y = z.0.inside.ready.sound.within in
    omega (arith, z.1, y)

pub parse_items-loop-level-preserved-then-is_tag : goal.parse_items-loop-level-preserved-then-is_tag
parse_items-loop-level-preserved-then-is_tag t c =
    (nest_deferred c.loop-level.invariant (omega arith) (tag_is k_deferred c.loop-level.w.sheet.now c.loop-level.w.payload.now c.loop-level.t.at c.peek.ensures c.is_tag.ensures ∙ c.if-is_tag.true)).0

-- an object that begins

pub parse_items-parse_head-requires : goal.parse_items-parse_head-requires
parse_items-parse_head-requires t c =
    let n = tag_is k_deferred c.loop-level.w.sheet.now c.loop-level.w.payload.now c.loop-level.t.at c.peek.ensures c.is_tag.ensures ∙ c.if-is_tag.false in
    let o = nest_begins c.loop-level.invariant (omega arith) (omega (arith, c.len.ensures.value)) n c.in-Some-begins_object.ensures.some in
    (omega (arith, c.in-Some-begins_object.ensures.some.deep), (o.inside.ready, (omega (arith, c.in-Some-begins_object.ensures.some.deep), o.low)))

pub parse_items-returns-in_err-level-clause-is : goal.parse_items-returns-in_err-level-clause-is
parse_items-returns-in_err-level-clause-is t c =
    let n = tag_is k_deferred c.loop-level.w.sheet.now c.loop-level.w.payload.now c.loop-level.t.at c.peek.ensures c.is_tag.ensures ∙ c.if-is_tag.false in
    let o = nest_begins c.loop-level.invariant (omega arith) (omega (arith, c.len.ensures.value)) n c.in-Some-begins_object.ensures.some in
    passed_on _ _ _ c.from_residual-in_err-level.ensures.1
    ∙ opens_no o (omega (arith, c.len.ensures.value, ap length c.push.ensures.items, c.push.ensures.len)) c.in_err-level.ensures.is

pub parse_items-loop-level-smaller-in-Some-begins_object : goal.parse_items-loop-level-smaller-in-Some-begins_object
parse_items-loop-level-smaller-in-Some-begins_object t c =
    let n = tag_is k_deferred c.loop-level.w.sheet.now c.loop-level.w.payload.now c.loop-level.t.at c.peek.ensures c.is_tag.ensures ∙ c.if-is_tag.false in
    let o = nest_begins c.loop-level.invariant (omega arith) (omega (arith, c.len.ensures.value)) n c.in-Some-begins_object.ensures.some in
    let q = c.in_ok-level.ensures in
    let z = opens_on o (omega (arith, c.len.ensures.value, ap length c.push.ensures.items, c.push.ensures.len)) c.push.ensures.items q.is q.small q.after in
    let y = z.0.inside.ready.sound.within in
    rw q.after.fixed.payload (omega (arith, c.push.ensures.len, z.1, rw q.after.fixed.payload at y))

pub parse_items-loop-level-preserved-in-Some-begins_object : goal.parse_items-loop-level-preserved-in-Some-begins_object
parse_items-loop-level-preserved-in-Some-begins_object t c =
    let n = tag_is k_deferred c.loop-level.w.sheet.now c.loop-level.w.payload.now c.loop-level.t.at c.peek.ensures c.is_tag.ensures ∙ c.if-is_tag.false in
    let o = nest_begins c.loop-level.invariant (omega arith) (omega (arith, c.len.ensures.value)) n c.in-Some-begins_object.ensures.some in
    let q = c.in_ok-level.ensures in
    (opens_on o (omega (arith, c.len.ensures.value, ap length c.push.ensures.items, c.push.ensures.len)) c.push.ensures.items q.is q.small q.after).0

-- another item

pub parse_items-returns-in_err-done-2-clause-is : goal.parse_items-returns-in_err-done-2-clause-is
parse_items-returns-in_err-done-2-clause-is t c =
    let n = tag_is k_deferred c.loop-level.w.sheet.now c.loop-level.w.payload.now c.loop-level.t.at c.peek.ensures c.is_tag.ensures ∙ c.if-is_tag.false in
    passed_on _ _ _ c.from_residual-in_err-done-2.ensures.1
    ∙ nest_slot_no c.loop-level.invariant (omega arith) (omega (arith, c.len.ensures.value)) n c.in_err-done-2.ensures.is

pub parse_items-loop-level-smaller : goal.parse_items-loop-level-smaller
parse_items-loop-level-smaller t c =
    let n = tag_is k_deferred c.loop-level.w.sheet.now c.loop-level.w.payload.now c.loop-level.t.at c.peek.ensures c.is_tag.ensures ∙ c.if-is_tag.false in
    let q = c.in_ok-done-2.ensures in
    let z = nest_slot c.loop-level.invariant (omega arith) (omega (arith, c.len.ensures.value)) n q.is q.after in
    let y = z.0.inside.ready.sound.within in
    rw q.after.fixed.payload (omega (arith, z.1, rw q.after.fixed.payload at y))

pub parse_items-loop-level-preserved : goal.parse_items-loop-level-preserved
parse_items-loop-level-preserved t c =
    let n = tag_is k_deferred c.loop-level.w.sheet.now c.loop-level.w.payload.now c.loop-level.t.at c.peek.ensures c.is_tag.ensures ∙ c.if-is_tag.false in
    let q = c.in_ok-done-2.ensures in
    (nest_slot c.loop-level.invariant (omega arith) (omega (arith, c.len.ensures.value)) n q.is q.after).0

-- ---- parse_ref

pub parse_ref-returns-then-d-gt-DEEPEST-clause-is : goal.parse_ref-returns-then-d-gt-DEEPEST-clause-is
parse_ref-returns-then-d-gt-DEEPEST-clause-is t c = rw c.refused.ensures (ref_deep _ _ _ c.if-d-gt-DEEPEST.true)

pub parse_ref-returns-in_err-head-clause-is : goal.parse_ref-returns-in_err-head-clause-is
parse_ref-returns-in_err-head-clause-is t c =
    passed_on _ _ _ c.from_residual.ensures.1 ∙ ref_cut c.args.w.now c.args.s c.if-d-gt-DEEPEST.false _ _ c.head_at.ensures.none c.in_err-head.ensures.value c.cut.ensures

pub parse_ref-parse_object-requires : goal.parse_ref-parse_object-requires
parse_ref-parse_object-requires t c =
    let g = c.requires.ready in
    let r : HeadAt c.args.w.now c.args.s.at c.in_ok-head.head = rw c.in_ok-head.ensures.ok_part at c.head_at.ensures.some in
    (omega arith, (moved_ready g r.inside, (c.if-d-gt-DEEPEST.false, space_low g (new_at r c.in-Some.ensures.some))))

pub parse_ref-returns-in-Some-clause-is : goal.parse_ref-returns-in-Some-clause-is
parse_ref-returns-in-Some-clause-is t c =
    let r : HeadAt c.args.w.now c.args.s.at c.in_ok-head.head = rw c.in_ok-head.ensures.ok_part at c.head_at.ensures.some in
    c.parse_object.ensures.is ∙ ref_object c.requires.ready (new_at r c.in-Some.ensures.some) c.args.d c.if-d-gt-DEEPEST.false

pub parse_ref-returns-in_err-prefix-clause-is : goal.parse_ref-returns-in_err-prefix-clause-is
parse_ref-returns-in_err-prefix-clause-is t c = passed_on _ _ _ c.from_residual-in_err-prefix.ensures.1 ∙ ref_refused (head_read c.begin.result c.requires.ready c.head_at.ensures.some c.in_ok-head.ensures.ok_part (c.in_default.ensures.none refl) c.begin.ensures) c.args.d c.if-d-gt-DEEPEST.false c.in_err-prefix.was

pub parse_ref-simple_ref-requires-clause-addressed : goal.parse_ref-simple_ref-requires-clause-addressed
parse_ref-simple_ref-requires-clause-addressed t c = other_asks (head_read c.begin.result c.requires.ready c.head_at.ensures.some c.in_ok-head.ensures.ok_part (c.in_default.ensures.none refl) c.begin.ensures) (read_as c.in_ok-prefix.was c.in-Other.is)

pub parse_ref-simple_ref-requires-clause-counts : goal.parse_ref-simple_ref-requires-clause-counts
parse_ref-simple_ref-requires-clause-counts t c = other_counts (head_read c.begin.result c.requires.ready c.head_at.ensures.some c.in_ok-head.ensures.ok_part (c.in_default.ensures.none refl) c.begin.ensures) (read_as c.in_ok-prefix.was c.in-Other.is)

pub parse_ref-simple_ref-requires-clause-simple : goal.parse_ref-simple_ref-requires-clause-simple
parse_ref-simple_ref-requires-clause-simple t c = other_simple (head_read c.begin.result c.requires.ready c.head_at.ensures.some c.in_ok-head.ensures.ok_part (c.in_default.ensures.none refl) c.begin.ensures) (read_as c.in_ok-prefix.was c.in-Other.is)

pub parse_ref-parse_inner-requires : goal.parse_ref-parse_inner-requires
parse_ref-parse_inner-requires t c = (omega arith, (inner_starts (head_read c.begin.result c.requires.ready c.head_at.ensures.some c.in_ok-head.ensures.ok_part (c.in_default.ensures.none refl) c.begin.ensures) (read_as c.in_ok-prefix.was c.in-Inner.is), c.if-d-gt-DEEPEST.false))

pub parse_ref-returns-in_err-value-in-Inner-clause-is : goal.parse_ref-returns-in_err-value-in-Inner-clause-is
parse_ref-returns-in_err-value-in-Inner-clause-is t c = passed_on _ _ _ c.from_residual-in_err-value-in-Inner.ensures.1 ∙ ref_inner_no (head_read c.begin.result c.requires.ready c.head_at.ensures.some c.in_ok-head.ensures.ok_part (c.in_default.ensures.none refl) c.begin.ensures) c.args.d c.if-d-gt-DEEPEST.false (read_as c.in_ok-prefix.was c.in-Inner.is) c.in_err-value-in-Inner.ensures.is

pub parse_ref-returns-in-Other : goal.parse_ref-returns-in-Other
parse_ref-returns-in-Other t c =
    let z = ref_simple (head_read c.begin.result c.requires.ready c.head_at.ensures.some c.in_ok-head.ensures.ok_part (c.in_default.ensures.none refl) c.begin.ensures) c.args.d c.if-d-gt-DEEPEST.false (read_as c.in_ok-prefix.was c.in-Other.is) c.simple_ref.result c.simple_ref.ensures.kept c.simple_ref.ensures.is in
    record { is = z.0; after = z.1 }

pub parse_ref-returns-in-Root : goal.parse_ref-returns-in-Root
parse_ref-returns-in-Root t c =
    let z = ref_root (head_read c.begin.result c.requires.ready c.head_at.ensures.some c.in_ok-head.ensures.ok_part (c.in_default.ensures.none refl) c.begin.ensures) c.args.d c.if-d-gt-DEEPEST.false (read_as c.in_ok-prefix.was c.in-Root.is) c.hold.result c.hold.ensures.kept c.hold.ensures.holds in
    record { is = z.0; after = z.1 }

pub parse_ref-returns-in_ok-value-in-Inner : goal.parse_ref-returns-in_ok-value-in-Inner
parse_ref-returns-in_ok-value-in-Inner t c =
    let i = c.in_ok-value-in-Inner.ensures in
    let h = c.hold-in-Inner.ensures in
    let z = ref_inner_got (head_read c.begin.result c.requires.ready c.head_at.ensures.some c.in_ok-head.ensures.ok_part (c.in_default.ensures.none refl) c.begin.ensures) c.args.d c.if-d-gt-DEEPEST.false (read_as c.in_ok-prefix.was c.in-Inner.is) i.after i.is c.hold-in-Inner.result h.kept h.holds in
    record { is = z.0; after = z.1 }

-- ---- parse_slot

pub parse_slot-returns-in-Some-clause-is : goal.parse_slot-returns-in-Some-clause-is
parse_slot-returns-in-Some-clause-is t c =
    let a = c.args in
    let x = input_of a.w.now in
    let r = c.in-Some.ensures in
    r.read.1 c.requires.ready.decoded (ref_at x (62 - a.d)) ∙ weak_slot x a.d (mem a.s (lent_of a.w.now)) a.level r.read.0

pub parse_slot-returns-in-Some-clause-after : goal.parse_slot-returns-in-Some-clause-after
parse_slot-returns-in-Some-clause-after t c = let r = c.in-Some.ensures in leaf_after c.requires.ready _ r.kept r.order

pub parse_slot-place_item-requires-clause-fits : goal.parse_slot-place_item-requires-clause-fits
parse_slot-place_item-requires-clause-fits t c =
    let a = c.args in
    let q = c.in_default.ensures in
    let r = c.in_ok-value.ensures in
    (put_asks (ready_still q.kept q.order c.requires.ready) a.d a.level c.requires.item r.after r.is (omega (arith, ap (λ (l : Lent). length l.slots) q.order))).0

pub parse_slot-place_item-requires-clause-slots_nonzero : goal.parse_slot-place_item-requires-clause-slots_nonzero
parse_slot-place_item-requires-clause-slots_nonzero t c =
    let a = c.args in
    let q = c.in_default.ensures in
    let r = c.in_ok-value.ensures in
    let z = put_asks (ready_still q.kept q.order c.requires.ready) a.d a.level c.requires.item r.after r.is (omega (arith, ap (λ (l : Lent). length l.slots) q.order)) in
    (z.1, z.2)

pub parse_slot-returns-clause-after : goal.parse_slot-returns-clause-after
parse_slot-returns-clause-after t c =
    let p = c.place_item.ensures in
    after_on c.place_weak.ensures.kept.0 (item_put c.in_ok-value.ensures.after c.args.level c.place_item.result p.is p.index p.rest)
