-- The faults that a step over the field can have: there sums, products and the next registers are always defined.
use Rattle.cairo_model.specs.declared.fault.StepFault.{StepFault}
use Rattle.cairo_model.specs.declared.fault.StepFault.TheVariants.{Fetch, Word, Dst, Op0, Op1, Res, Jump, Call, Assert, Frame}

abbrev pub IsFieldFault : StepFault → Type 0
IsFieldFault Fetch = Unit {0}
IsFieldFault Word = Unit {0}
IsFieldFault Dst = Unit {0}
IsFieldFault Op0 = Unit {0}
IsFieldFault Op1 = Unit {0}
IsFieldFault Res = ⊥
IsFieldFault Jump = ⊥
IsFieldFault Call = Unit {0}
IsFieldFault Assert = Unit {0}
IsFieldFault Frame = ⊥
