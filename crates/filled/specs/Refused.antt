-- Refusals of calls over filled tables. Assumes nothing: these are definitions.
use Rattle.refusals.specs.declared.refusal.Refusal.{Refusal}
use Rattle.filled.specs.declared.refused.Refused.{Refused}

-- a refusal, at place 0
abbrev pub refused : Refusal → Refused
refused refusal = record { refusal = refusal; place = 0 }
