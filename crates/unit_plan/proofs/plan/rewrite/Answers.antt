use Rattle.std.proofs.Common.{arith, sym, ◌∙◌}
use Rattle.part_tree.proofs.Plain.{plain_based, plain_named}
use Rattle.unit_plan.proofs.plan.rewrite.Goals as goal

pub returns-clause-can : goal.returns-clause-can
returns-clause-can c = record {
  total = c.in_ok-segments.ensures.total ∙ sym c.requires.new;
  fits = c.requires.new_small;
  based = plain_based _ c.in_ok-segments.ensures.plain;
}

pub returns-clause-belongs : goal.returns-clause-belongs
returns-clause-belongs c = λ b is. record {
  can = record { total = c.in_ok-segments.ensures.total ∙ sym c.requires.new; fits = c.requires.new_small; based = plain_based _ c.in_ok-segments.ensures.plain };
  file = (c.in_ok-segments.ensures.inside b (omega (arith, is)), omega (arith, is, c.requires.old_small), plain_named _ b _ c.in_ok-segments.ensures.plain);
}
