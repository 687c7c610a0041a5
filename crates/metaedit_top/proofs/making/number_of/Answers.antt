use Rattle.std.proofs.Common.{◌<◌, ◌^◌, ℕ, List, sym, subst}
use Rattle.std.specs.Str.Parse.{IsNumeral, digits_value, without_leading_plus}
use Rattle.core_edit.proofs.Letters.{not_parsed, numeral_utf8}
use Rattle.metaedit_top.proofs.making.number_of.Goals as goal

pub returns-in-Err-from_str_radix : goal.returns-in-Err-from_str_radix
returns-in-Err-from_str_radix c =
    let Told : List ℕ → Type 0 = λ xs. (IsNumeral 10 (without_leading_plus xs) × (digits_value 10 (without_leading_plus xs) < 2 ^ 64)) → ⊥ in
    not_parsed c.args.text.now (sym c.if-not-is_numeral.ensures) (subst Told c.in-Ok.ensures.cases.0 c.in-Err-from_str_radix.ensures.value)

pub returns-in-Err : goal.returns-in-Err
returns-in-Err c = absurd (c.in-Err.ensures.cases.0 (numeral_utf8 c.args.text.now (sym c.if-not-is_numeral.ensures)))
