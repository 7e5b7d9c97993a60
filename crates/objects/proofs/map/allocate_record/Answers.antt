use mathlib.Core.Path.{refl}
use Rattle.objects.proofs.MapLaws.{enter_asks}
use Rattle.objects.proofs.map.allocate_record.Goals as goal

pub enter_record-requires : goal.enter_record-requires
enter_record-requires c = enter_asks _ _ _ _ _ (c.in_ok-placed.ensures.is c.args.w.now.alloc refl refl) _ c.requires.2
