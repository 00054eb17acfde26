use Rattle.cairo_step.specs.Working.Split.{Split}
use Rattle.cairo_step.specs.declared.split.Parts.{Parts}

-- a word's parts in code as plain data
abbrev pub split : Parts → Split
split p = record {
  a0 = p.a0;
  a1 = p.a1;
  a2 = p.a2;
  f0 = p.f0;
  f1 = p.f1;
  f2 = p.f2;
  f3 = p.f3;
  f4 = p.f4;
  f5 = p.f5;
  f6 = p.f6;
  f7 = p.f7;
  f8 = p.f8;
  f9 = p.f9;
  f10 = p.f10;
  f11 = p.f11;
  f12 = p.f12;
  f13 = p.f13;
  f14 = p.f14;
}
