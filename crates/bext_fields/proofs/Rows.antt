-- The table's rows against the model's ranges.
use Rattle.std.proofs.Common.{◌≡◌, ℕ, zero, suc, ◌<◌, ◌+◌, List, length, take, drop, ◌++◌, get_or, refl, ap, ◌∙◌, arith}
use Rattle.field_model.specs.Bext.{range_len, range_of, lay_range}
use Rattle.field_model.proofs.Ranges.{fixed_at, fixed_len}
use Rattle.bext_fields.specs.declared.FieldRow.{FieldRow}
use Rattle.bext_fields.specs.declared.TheConstants.{BEXT}
use Rattle.bext_fields.specs.Table.{IsModelRow, bytes_of, with_bytes}

-- a fact at each number below 14
below_14 : (P : ℕ → Type 0) → P 0 → P 1 → P 2 → P 3 → P 4 → P 5 → P 6 → P 7 → P 8 → P 9 → P 10 → P 11 → P 12 → P 13 → (k : ℕ) → k < 14 → P k
below_14 P p0 p1 p2 p3 p4 p5 p6 p7 p8 p9 p10 p11 p12 p13 zero h = p0
below_14 P p0 p1 p2 p3 p4 p5 p6 p7 p8 p9 p10 p11 p12 p13 (suc zero) h = p1
below_14 P p0 p1 p2 p3 p4 p5 p6 p7 p8 p9 p10 p11 p12 p13 (suc (suc zero)) h = p2
below_14 P p0 p1 p2 p3 p4 p5 p6 p7 p8 p9 p10 p11 p12 p13 (suc (suc (suc zero))) h = p3
below_14 P p0 p1 p2 p3 p4 p5 p6 p7 p8 p9 p10 p11 p12 p13 (suc (suc (suc (suc zero)))) h = p4
below_14 P p0 p1 p2 p3 p4 p5 p6 p7 p8 p9 p10 p11 p12 p13 (suc (suc (suc (suc (suc zero))))) h = p5
below_14 P p0 p1 p2 p3 p4 p5 p6 p7 p8 p9 p10 p11 p12 p13 (suc (suc (suc (suc (suc (suc zero)))))) h = p6
below_14 P p0 p1 p2 p3 p4 p5 p6 p7 p8 p9 p10 p11 p12 p13 (suc (suc (suc (suc (suc (suc (suc zero))))))) h = p7
below_14 P p0 p1 p2 p3 p4 p5 p6 p7 p8 p9 p10 p11 p12 p13 (suc (suc (suc (suc (suc (suc (suc (suc zero)))))))) h = p8
below_14 P p0 p1 p2 p3 p4 p5 p6 p7 p8 p9 p10 p11 p12 p13 (suc (suc (suc (suc (suc (suc (suc (suc (suc zero))))))))) h = p9
below_14 P p0 p1 p2 p3 p4 p5 p6 p7 p8 p9 p10 p11 p12 p13 (suc (suc (suc (suc (suc (suc (suc (suc (suc (suc zero)))))))))) h = p10
below_14 P p0 p1 p2 p3 p4 p5 p6 p7 p8 p9 p10 p11 p12 p13 (suc (suc (suc (suc (suc (suc (suc (suc (suc (suc (suc zero))))))))))) h = p11
below_14 P p0 p1 p2 p3 p4 p5 p6 p7 p8 p9 p10 p11 p12 p13 (suc (suc (suc (suc (suc (suc (suc (suc (suc (suc (suc (suc zero)))))))))))) h = p12
below_14 P p0 p1 p2 p3 p4 p5 p6 p7 p8 p9 p10 p11 p12 p13 (suc (suc (suc (suc (suc (suc (suc (suc (suc (suc (suc (suc (suc zero))))))))))))) h = p13
below_14 P p0 p1 p2 p3 p4 p5 p6 p7 p8 p9 p10 p11 p12 p13 (suc (suc (suc (suc (suc (suc (suc (suc (suc (suc (suc (suc (suc (suc k)))))))))))))) h = absurd (omega arith)

pub model_rows : (k : ℕ) (d : FieldRow) → k < 14 → IsModelRow (get_or BEXT k d) k
model_rows k d h =
    let P : ℕ → Type 0 = λ k. IsModelRow (get_or BEXT k d) k in
    below_14 P
    (record { number = refl; place = refl; size = refl; same_form = refl })
    (record { number = refl; place = refl; size = refl; same_form = refl })
    (record { number = refl; place = refl; size = refl; same_form = refl })
    (record { number = refl; place = refl; size = refl; same_form = refl })
    (record { number = refl; place = refl; size = refl; same_form = refl })
    (record { number = refl; place = refl; size = refl; same_form = refl })
    (record { number = refl; place = refl; size = refl; same_form = refl })
    (record { number = refl; place = refl; size = refl; same_form = refl })
    (record { number = refl; place = refl; size = refl; same_form = refl })
    (record { number = refl; place = refl; size = refl; same_form = refl })
    (record { number = refl; place = refl; size = refl; same_form = refl })
    (record { number = refl; place = refl; size = refl; same_form = refl })
    (record { number = refl; place = refl; size = refl; same_form = refl })
    (record { number = refl; place = refl; size = refl; same_form = refl })
    k h

pub same_bytes : (k : ℕ) (d : FieldRow) (body : List ℕ) → k < 14 → bytes_of (get_or BEXT k d) body ≡ range_of k body
same_bytes k d body h =
    let is = model_rows k d h in
    ap (λ (n : ℕ). take n (drop (get_or BEXT k d).at body)) (is.size ∙ fixed_len k 0 (length body) h)
    ∙ ap (λ (n : ℕ). take (range_len k (length body)) (drop n body)) (is.place ∙ fixed_at k 0 (length body) h)

pub same_laid : (k : ℕ) (d : FieldRow) (raw body : List ℕ) → k < 14 → with_bytes (get_or BEXT k d) raw body ≡ lay_range k raw body
same_laid k d raw body h =
    let is = model_rows k d h in
    ap (λ (n : ℕ). take (get_or BEXT k d).at body ++ (raw ++ drop ((get_or BEXT k d).at + n) body)) (is.size ∙ fixed_len k 0 (length body) h)
    ∙ ap (λ (n : ℕ). take n body ++ (raw ++ drop (n + range_len k (length body)) body)) (is.place ∙ fixed_at k 0 (length body) h)
