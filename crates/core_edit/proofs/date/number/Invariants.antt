use Rattle.std.proofs.Common.{◌≡◌, ◌≤◌, drop}
use Rattle.std.specs.Str.Parse.{digits_value, digits_value_after}
use Rattle.core_edit.proofs.Texts.{most}
use Rattle.core_edit.proofs.date.number.Given as goal

-- the digits from here on follow the number so far, which is small
abbrev pub invariant-loop-c : goal.invariant-loop-c
invariant-loop-c l = record {
  rest : digits_value_after 10 l.n (drop l.c-index l.digits) ≡ digits_value 10 l.digits;
  small : l.n ≤ most l.c-index;
}
