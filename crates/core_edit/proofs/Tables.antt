-- The rows of bext, found by their fields.
use Rattle.std.proofs.Common.{◌≡◌, ℕ, get_or, ap, Option, Some}
use Rattle.std.specs.Prelude.{position, unwrap_or}
use Rattle.part_tree.specs.declared.field.BextField.{BextField}
use Rattle.part_tree.specs.declared.field.BextField.TheVariants.{Description, Originator, OriginatorReference, OriginationDate, OriginationTime, TimeReference, Version, Umid, LoudnessValue, LoudnessRange, MaxTruePeakLevel, MaxMomentaryLoudness, MaxShortTermLoudness, Reserved, CodingHistory}
use Rattle.field_model.specs.Bext.{width}
use Rattle.bext_fields.specs.declared.FieldRow.{FieldRow}
use Rattle.bext_fields.specs.declared.TheConstants.{BEXT}
use Rattle.bext_fields.specs.Table.{is_of}

found_number : (k j : ℕ) → Some k ≡ Some j → k ≡ j
found_number k j h = ap (λ (o : Option ℕ). unwrap_or o 0) h

-- the length of the row that is found is the field's
pub found_width : (field : BextField) (k : ℕ) (d : FieldRow) → Some k ≡ position (is_of field) BEXT → (get_or BEXT k d).len ≡ width field
found_width Description k d h = ap (λ (i : ℕ). (get_or BEXT i d).len) (found_number k 0 h)
found_width Originator k d h = ap (λ (i : ℕ). (get_or BEXT i d).len) (found_number k 1 h)
found_width OriginatorReference k d h = ap (λ (i : ℕ). (get_or BEXT i d).len) (found_number k 2 h)
found_width OriginationDate k d h = ap (λ (i : ℕ). (get_or BEXT i d).len) (found_number k 3 h)
found_width OriginationTime k d h = ap (λ (i : ℕ). (get_or BEXT i d).len) (found_number k 4 h)
found_width TimeReference k d h = ap (λ (i : ℕ). (get_or BEXT i d).len) (found_number k 5 h)
found_width Version k d h = ap (λ (i : ℕ). (get_or BEXT i d).len) (found_number k 6 h)
found_width Umid k d h = ap (λ (i : ℕ). (get_or BEXT i d).len) (found_number k 7 h)
found_width LoudnessValue k d h = ap (λ (i : ℕ). (get_or BEXT i d).len) (found_number k 8 h)
found_width LoudnessRange k d h = ap (λ (i : ℕ). (get_or BEXT i d).len) (found_number k 9 h)
found_width MaxTruePeakLevel k d h = ap (λ (i : ℕ). (get_or BEXT i d).len) (found_number k 10 h)
found_width MaxMomentaryLoudness k d h = ap (λ (i : ℕ). (get_or BEXT i d).len) (found_number k 11 h)
found_width MaxShortTermLoudness k d h = ap (λ (i : ℕ). (get_or BEXT i d).len) (found_number k 12 h)
found_width Reserved k d h = ap (λ (i : ℕ). (get_or BEXT i d).len) (found_number k 13 h)
found_width CodingHistory k d h = absurd cc
