-- What is told of rows that can't name a place is what the model's tests of them tell.
use Rattle.std.proofs.Common.{◌≡◌, ◌∙◌, ◌⊎◌, ℕ, zero, suc, ◌+◌, ◌-◌, ◌*◌, ◌%◌, ◌^◌, ◌≤◌, ◌<◌, Bool, true, false, cond, eqb, ltb, List, [], ◌∷◌, ◌++◌, length, take, drop, Option, Some, None, refl, sym, ap, subst, arith, inl, inr, length-take, length-drop}
use Rattle.std.specs.Prelude.{◌&&◌, not, nat_le}
use Rattle.std.specs.List.{AllByRecursion, flat_map}
use Rattle.std.proofs.Math.Nat.{mul-div-le, mul-suc}
use Rattle.std.proofs.lemmas.Bool.{cases_lt, le-leb, lt-leb, le-ltb, lt-ltb, leb-true}
use Rattle.part_tree.specs.Large.{Size, limited}
use Rattle.part_tree.specs.Moves.{Move}
use Rattle.part_tree.specs.Tables.{Naming, can_name, le32, length_of, misfit, misfit_in, moved, number, plainly, second_of, width}
use Rattle.part_tree.specs.declared.table.Base.TheVariants.{FileStart}
use Rattle.part_tree.specs.declared.table.IndexHead.{IndexHead}
use Rattle.part_tree.specs.declared.table.TableForm.TheVariants as form
use Rattle.container_model.specs.Tests.{first, or_else}
use Rattle.container_model.specs.Tables.{Table}
use Rattle.container_model.specs.Written.{rows}
use Rattle.avi_index.specs.Rows.{Base, count16, from_movi, from_start, row_length, row_offset}
use Rattle.opendml_index.specs.Index.{entries, entry_length, entry_offset, entry_second, first_counted, has_second, index_base, is_super, used, width as row_width}
use Rattle.opendml_index.proofs.Known.{standard_index}
use Rattle.opendml_index.proofs.Rows.{rows_take}
use Rattle.avi_model.specs.Large.{Check, at_most, entry_checks, offset_checks, old_checks, row_checks, second_checks, standard_checks}
use Rattle.avi_model.proofs.Relocated.{number_32}
use Rattle.avi_plan.specs.Changes.{refuse, refused}
use Rattle.avi_plan.specs.Heads.{head_in}
use Rattle.table_misfits.specs.Misfits.{misfit_rows, misfits}
use Rattle.avi_plan.specs.Refusals.{table_checks}
use Rattle.avi_plan.specs.Tables.{IsTabled, Tabled, changes_of, index, index_changes, old, old_changes, standard_changes}
use Rattle.avi_plan.proofs.Indexed.{rows_stand}
use Rattle.avi_plan.proofs.Renewed.{wide_form}
use Rattle.avi_plan.proofs.Renumbered.{refused_both}

first_both : (xs ys : List Check) → first (xs ++ ys) ≡ or_else (first xs) (first ys)
first_both [] ys = refl
first_both (x ∷ xs) ys = go x.0 (first_both xs ys)
  where
    go : (t : Bool) → first (xs ++ ys) ≡ or_else (first xs) (first ys) → cond t (Some x.1) (first (xs ++ ys)) ≡ or_else (cond t (Some x.1) (first xs)) (first ys)
    go true again = refl
    go false again = again

or_nothing : (o : Option Size) → or_else o None ≡ o
or_nothing None = refl
or_nothing (Some x) = refl

-- ---- idx1

plain : (q : ℕ) → refuse (form.Idx1 FileStart) (cond (can_name le32 (plainly 8) q) None (Some q)) ≡ cond (ltb 4294967295 q) (Some (limited 4294967295 q)) None
plain q = go (cases_lt q 4294967296)
  where
    low : nat_le 0 q ≡ true
    low = le-leb 0 q (omega arith)

    go : (q < 4294967296) ⊎ (4294967296 ≤ q) → refuse (form.Idx1 FileStart) (cond (nat_le 0 q && ltb q 4294967296) None (Some q)) ≡ cond (ltb 4294967295 q) (Some (limited 4294967295 q)) None
    go (inl lt) =
        ap (λ (t : Bool). refuse (form.Idx1 FileStart) (cond (t && ltb q 4294967296) None (Some q))) low
        ∙ ap (λ (t : Bool). refuse (form.Idx1 FileStart) (cond t None (Some q))) (lt-ltb q 4294967296 lt)
        ∙ ap (λ (t : Bool). cond t (Some (limited 4294967295 q)) None) (sym (le-ltb 4294967295 q (omega (arith, lt))))
    go (inr le) =
        ap (λ (t : Bool). refuse (form.Idx1 FileStart) (cond (t && ltb q 4294967296) None (Some q))) low
        ∙ ap (λ (t : Bool). refuse (form.Idx1 FileStart) (cond t None (Some q))) (le-ltb q 4294967296 le)
        ∙ ap (λ (t : Bool). cond t (Some (limited 4294967295 q)) None) (sym (lt-ltb 4294967295 q (omega (arith, le))))

module _ (ms : List Move) where
  old_row : (r : List ℕ) → length r ≡ 16 → refuse (form.Idx1 FileStart) (misfit ms (form.Idx1 FileStart) r) ≡ first (row_checks (moved ms) from_start r)
  old_row r long =
      let len : row_length r ≡ number le32 12 r = number_32 12 r (omega (arith, long)) in
      let off : row_offset r ≡ number le32 8 r = number_32 8 r (omega (arith, long)) in
      ap (λ (k : ℕ). refuse (form.Idx1 FileStart) (misfit_in ms le32 r (cond (eqb k 0) [] (plainly 8 ∷ [])))) (sym len) ∙ go (eqb (row_length r) 0) off
    where
      go : (t : Bool) → row_offset r ≡ number le32 8 r → refuse (form.Idx1 FileStart) (misfit_in ms le32 r (cond t [] (plainly 8 ∷ []))) ≡ first (cond t [] (at_most 4294967295 (moved ms (row_offset r)) ∷ []))
      go true off = refl
      go false off =
          let place : 0 + number le32 8 r ≡ row_offset r = omega (arith, off) in
          plain (moved ms (0 + number le32 8 r)) ∙ ap (λ (k : ℕ). cond (ltb 4294967295 (moved ms k)) (Some (limited 4294967295 (moved ms k))) None) place

  old_both : (a c : Option ℕ) → refuse (form.Idx1 FileStart) (or_else a c) ≡ or_else (refuse (form.Idx1 FileStart) a) (refuse (form.Idx1 FileStart) c)
  old_both None c = refl
  old_both (Some p) c = refl

  old_rows_told : (n : ℕ) (b : List ℕ) → 16 * n ≤ length b → refuse (form.Idx1 FileStart) (misfit_rows ms (form.Idx1 FileStart) (rows 16 n b)) ≡ first (flat_map (row_checks (moved ms) from_start) (rows 16 n b))
  old_rows_told zero b fits = refl
  old_rows_told (suc n) b fits =
      let r = take 16 b in
      let rest = rows 16 n (drop 16 b) in
      old_both (misfit ms (form.Idx1 FileStart) r) (misfit_rows ms (form.Idx1 FileStart) rest)
      ∙ ap (λ (o : Option Size). or_else o (refuse (form.Idx1 FileStart) (misfit_rows ms (form.Idx1 FileStart) rest))) (old_row r (omega (arith, length-take 16 b, fits, mul-suc 16 n)))
      ∙ ap (λ (o : Option Size). or_else (first (row_checks (moved ms) from_start r)) o) (old_rows_told n (drop 16 b) (omega (arith, length-drop 16 b, fits, mul-suc 16 n)))
      ∙ sym (first_both (row_checks (moved ms) from_start r) (flat_map (row_checks (moved ms) from_start) rest))

  -- ---- standard indexes

  module _ (h : IndexHead) (nb : ℕ) where
    std_both : (a c : Option ℕ) → refuse (form.Standard h nb) (or_else a c) ≡ or_else (refuse (form.Standard h nb) a) (refuse (form.Standard h nb) c)
    std_both None c = refl
    std_both (Some p) c = refl

    -- the first number of an entry, and the second
    one_named : (q : ℕ) (m : Option ℕ) (rest : Option Size) → refuse (form.Standard h nb) m ≡ rest
        → refuse (form.Standard h nb) (cond (nat_le (nb + 0) q && ltb q (nb + 4294967296)) m (Some q)) ≡ cond (ltb q nb) (Some (limited 0 q)) (cond (ltb 4294967295 (q - nb)) (Some (limited 4294967295 q)) rest)
    one_named q m rest e = go (cases_lt q nb) (cases_lt q (nb + 4294967296))
      where
        go : (q < nb) ⊎ (nb ≤ q) → (q < nb + 4294967296) ⊎ (nb + 4294967296 ≤ q)
            → refuse (form.Standard h nb) (cond (nat_le (nb + 0) q && ltb q (nb + 4294967296)) m (Some q)) ≡ cond (ltb q nb) (Some (limited 0 q)) (cond (ltb 4294967295 (q - nb)) (Some (limited 4294967295 q)) rest)
        go (inl lt) c =
            ap (λ (t : Bool). refuse (form.Standard h nb) (cond (t && ltb q (nb + 4294967296)) m (Some q))) (lt-leb (nb + 0) q (omega (arith, lt)))
            ∙ ap (λ (t : Bool). Some (limited (cond t 0 4294967295) q)) (le-leb q nb (omega (arith, lt)))
            ∙ ap (λ (t : Bool). cond t (Some (limited 0 q)) (cond (ltb 4294967295 (q - nb)) (Some (limited 4294967295 q)) rest)) (sym (lt-ltb q nb lt))
        go (inr le) (inl lt) =
            ap (λ (t : Bool). refuse (form.Standard h nb) (cond (t && ltb q (nb + 4294967296)) m (Some q))) (le-leb (nb + 0) q (omega (arith, le)))
            ∙ ap (λ (t : Bool). refuse (form.Standard h nb) (cond t m (Some q))) (lt-ltb q (nb + 4294967296) lt) ∙ e
            ∙ ap (λ (t : Bool). cond t (Some (limited 4294967295 q)) rest) (sym (le-ltb 4294967295 (q - nb) (omega (arith, lt, le))))
            ∙ ap (λ (t : Bool). cond t (Some (limited 0 q)) (cond (ltb 4294967295 (q - nb)) (Some (limited 4294967295 q)) rest)) (sym (le-ltb q nb le))
        go (inr le) (inr far) =
            ap (λ (t : Bool). refuse (form.Standard h nb) (cond (t && ltb q (nb + 4294967296)) m (Some q))) (le-leb (nb + 0) q (omega (arith, le)))
            ∙ ap (λ (t : Bool). refuse (form.Standard h nb) (cond t m (Some q))) (le-ltb q (nb + 4294967296) far)
            ∙ ap (λ (t : Bool). Some (limited (cond t 0 4294967295) q)) (lt-leb q nb (omega (arith, far)))
            ∙ ap (λ (t : Bool). cond t (Some (limited 4294967295 q)) rest) (sym (lt-ltb 4294967295 (q - nb) (omega (arith, far))))
            ∙ ap (λ (t : Bool). cond t (Some (limited 0 q)) (cond (ltb 4294967295 (q - nb)) (Some (limited 4294967295 q)) rest)) (sym (le-ltb q nb le))

    two_named : (q : ℕ) → refuse (form.Standard h nb) (cond (nat_le (nb + 1) q && ltb q (nb + 4294967296)) None (Some q)) ≡ cond (nat_le q nb) (Some (limited 0 q)) (cond (ltb 4294967295 (q - nb)) (Some (limited 4294967295 q)) None)
    two_named q = go (cases_lt nb q) (cases_lt q (nb + 4294967296))
      where
        go : (nb < q) ⊎ (q ≤ nb) → (q < nb + 4294967296) ⊎ (nb + 4294967296 ≤ q)
            → refuse (form.Standard h nb) (cond (nat_le (nb + 1) q && ltb q (nb + 4294967296)) None (Some q)) ≡ cond (nat_le q nb) (Some (limited 0 q)) (cond (ltb 4294967295 (q - nb)) (Some (limited 4294967295 q)) None)
        go (inr le) c =
            ap (λ (t : Bool). refuse (form.Standard h nb) (cond (t && ltb q (nb + 4294967296)) None (Some q))) (lt-leb (nb + 1) q (omega (arith, le)))
            ∙ ap (λ (t : Bool). Some (limited (cond t 0 4294967295) q)) (le-leb q nb le)
            ∙ ap (λ (t : Bool). cond t (Some (limited 0 q)) (cond (ltb 4294967295 (q - nb)) (Some (limited 4294967295 q)) None)) (sym (le-leb q nb le))
        go (inl high) (inl lt) =
            ap (λ (t : Bool). refuse (form.Standard h nb) (cond (t && ltb q (nb + 4294967296)) None (Some q))) (le-leb (nb + 1) q (omega (arith, high)))
            ∙ ap (λ (t : Bool). refuse (form.Standard h nb) (cond t None (Some q))) (lt-ltb q (nb + 4294967296) lt)
            ∙ ap (λ (t : Bool). cond t (Some (limited 4294967295 q)) None) (sym (le-ltb 4294967295 (q - nb) (omega (arith, lt, high))))
            ∙ ap (λ (t : Bool). cond t (Some (limited 0 q)) (cond (ltb 4294967295 (q - nb)) (Some (limited 4294967295 q)) None)) (sym (lt-leb q nb high))
        go (inl high) (inr far) =
            ap (λ (t : Bool). refuse (form.Standard h nb) (cond (t && ltb q (nb + 4294967296)) None (Some q))) (le-leb (nb + 1) q (omega (arith, high)))
            ∙ ap (λ (t : Bool). refuse (form.Standard h nb) (cond t None (Some q))) (le-ltb q (nb + 4294967296) far)
            ∙ ap (λ (t : Bool). Some (limited (cond t 0 4294967295) q)) (lt-leb q nb high)
            ∙ ap (λ (t : Bool). cond t (Some (limited 4294967295 q)) None) (sym (lt-ltb 4294967295 (q - nb) (omega (arith, far))))
            ∙ ap (λ (t : Bool). cond t (Some (limited 0 q)) (cond (ltb 4294967295 (q - nb)) (Some (limited 4294967295 q)) None)) (sym (lt-leb q nb high))

    abbrev fst_naming : Naming
    fst_naming = record { at = 0; old_base = h.base; new_base = nb; least = 0 }

    abbrev snd_naming : Naming
    snd_naming = record { at = 8; old_base = h.base; new_base = nb; least = 1 }

    abbrev snd_checks : List ℕ → List Check
    snd_checks r = second_checks nb (moved ms (h.base + entry_second r))

    second_is : (r : List ℕ) → length r ≡ width (form.Standard h nb)
        → refuse (form.Standard h nb) (misfit_in ms le32 r (second_of h nb r)) ≡ first (cond (has_second r) (second_checks nb (moved ms (h.base + entry_second r))) [])
    second_is r long = go h.two_fields long
      where
        wide : entry_second r ≡ number le32 8 r → (t : Bool) → refuse (form.Standard h nb) (misfit_in ms le32 r (cond (not t) (snd_naming ∷ []) [])) ≡ first (cond (not t) (snd_checks r) [])
        wide e true = refl
        wide e false = two_named (moved ms (h.base + number le32 8 r)) ∙ ap (λ (k : ℕ). first (second_checks nb (moved ms (h.base + k)))) (sym e)

        go : (t : Bool) → length r ≡ cond t 12 8 → refuse (form.Standard h nb) (misfit_in ms le32 r (cond (t && not (eqb (number le32 8 r) 0)) (snd_naming ∷ []) [])) ≡ first (cond (has_second r) (snd_checks r) [])
        go false e = sym (ap (λ (k : ℕ). first (cond (ltb 8 k && not (eqb (entry_second r) 0)) (snd_checks r) [])) e)
        go true e =
            let m = number_32 8 r (omega (arith, e)) in
            ap (λ (k : ℕ). refuse (form.Standard h nb) (misfit_in ms le32 r (cond (not (eqb k 0)) (snd_naming ∷ []) []))) (sym m) ∙ wide m (eqb (entry_second r) 0)
            ∙ sym (ap (λ (k : ℕ). first (cond (ltb 8 k && not (eqb (entry_second r) 0)) (snd_checks r) [])) e)

    eight : (r : List ℕ) → length r ≡ width (form.Standard h nb) → 8 ≤ length r
    eight r long = go h.two_fields long
      where
        go : (t : Bool) → length r ≡ cond t 12 8 → 8 ≤ length r
        go true e = omega (arith, e)
        go false e = omega (arith, e)

    std_row : (r : List ℕ) → length r ≡ width (form.Standard h nb) → refuse (form.Standard h nb) (misfit ms (form.Standard h nb) r) ≡ first (entry_checks (moved ms) h.base nb r)
    std_row r long =
        let l = eight r long in
        let len : entry_length r ≡ length_of r = ap (λ (k : ℕ). k % 2 ^ 31) (number_32 4 r (omega (arith, l))) in
        let off : entry_offset r ≡ number le32 0 r = number_32 0 r (omega (arith, l)) in
        ap (λ (k : ℕ). refuse (form.Standard h nb) (misfit_in ms le32 r (cond (eqb k 0) [] (fst_naming ∷ second_of h nb r)))) (sym len) ∙ go (eqb (entry_length r) 0) off
      where
        tail : Option Size
        tail = first (cond (has_second r) (snd_checks r) [])

        go : (t : Bool) → entry_offset r ≡ number le32 0 r → refuse (form.Standard h nb) (misfit_in ms le32 r (cond t [] (fst_naming ∷ second_of h nb r)))
            ≡ first (cond t [] (offset_checks nb (moved ms (h.base + entry_offset r)) ++ cond (has_second r) (snd_checks r) []))
        go true off = refl
        go false off =
            one_named (moved ms (h.base + number le32 0 r)) (misfit_in ms le32 r (second_of h nb r)) (first (cond (has_second r) (snd_checks r) [])) (second_is r long)
            ∙ ap (λ (k : ℕ). first (offset_checks nb (moved ms (h.base + k)) ++ cond (has_second r) (snd_checks r) [])) (sym off)

    std_rows_told : (n : ℕ) (b : List ℕ) → width (form.Standard h nb) * n ≤ length b
        → refuse (form.Standard h nb) (misfit_rows ms (form.Standard h nb) (rows (width (form.Standard h nb)) n b)) ≡ first (flat_map (entry_checks (moved ms) h.base nb) (rows (width (form.Standard h nb)) n b))
    std_rows_told zero b fits = refl
    std_rows_told (suc n) b fits =
        let w = width (form.Standard h nb) in
        let r = take (width (form.Standard h nb)) b in
        let rest = rows (width (form.Standard h nb)) n (drop (width (form.Standard h nb)) b) in
        std_both (misfit ms (form.Standard h nb) r) (misfit_rows ms (form.Standard h nb) rest)
        ∙ ap (λ (o : Option Size). or_else o (refuse (form.Standard h nb) (misfit_rows ms (form.Standard h nb) rest))) (std_row r (omega (arith, length-take w b, fits, mul-suc w n)))
        ∙ ap (λ (o : Option Size). or_else (first (entry_checks (moved ms) h.base nb r)) o) (std_rows_told n (drop w b) (omega (arith, length-drop w b, fits, mul-suc w n)))
        ∙ sym (first_both (entry_checks (moved ms) h.base nb r) (flat_map (entry_checks (moved ms) h.base nb) rest))

  -- ---- tables

  super_none : (o : Option ℕ) → refuse form.Super o ≡ None
  super_none None = refl
  super_none (Some p) = refl

  movi_none : (rs : List (List ℕ)) → first (flat_map (row_checks (moved ms) from_movi) rs) ≡ None
  movi_none [] = refl
  movi_none (r ∷ rs) = movi_none rs

  module _ (b : List ℕ) (base : Base) where
    old_refused : (t : Table) → IsTabled b (old t) → (base : Base) → refused ms b (old_changes base t) ≡ first (old_checks (moved ms) base t)
    old_refused t stands from_movi = sym (movi_none (rows 16 (count16 t.body) t.body))
    old_refused t stands from_start =
        let n = count16 t.body in
        let fits : 16 * count16 t.body ≤ length t.body = mul-div-le (length t.body) 16 in
        let same : rows 16 (count16 t.body) (drop t.at b) ≡ rows 16 (count16 t.body) t.body = sym (rows_take 16 n (length t.body) (drop t.at b) fits) ∙ ap (rows 16 n) stands in
        or_nothing (refuse (form.Idx1 FileStart) (misfits ms (form.Idx1 FileStart) n (drop t.at b)))
        ∙ ap (λ (rs : List (List ℕ)). refuse (form.Idx1 FileStart) (misfit_rows ms (form.Idx1 FileStart) rs)) same ∙ old_rows_told n t.body fits

    standard_refused : (t : Table) → IsTabled b (index t) → is_super t.body ≡ false → (o : Option ℕ) → refused ms b (standard_changes ms (head_in t.body) t.at o) ≡ first (standard_checks (moved ms) t.body o)
    standard_refused t tabled e None = refl
    standard_refused t tabled e (Some x) =
        let body = t.body in
        let n = used body in
        let nb = (index_base body + moved ms (index_base body + x)) - (index_base body + x) in
        let w = width (form.Standard (head_in body) nb) in
        let wide = wide_form body nb (standard_index body tabled.1.kind_is e) in
        let room : 24 + w * n ≤ length body = subst (λ (k : ℕ). 24 + k * used t.body ≤ length t.body) wide (leb-true (24 + row_width t.body * used t.body) (length t.body) tabled.1.entries_are_there) in
        let same : rows w n (drop (t.at + 24) b) ≡ rows w n (drop 24 body) = rows_stand b t.at w n body tabled.0 room in
        or_nothing (refuse (form.Standard (head_in body) nb) (misfits ms (form.Standard (head_in body) nb) n (drop (t.at + 24) b)))
        ∙ ap (λ (rs : List (List ℕ)). refuse (form.Standard (head_in body) nb) (misfit_rows ms (form.Standard (head_in body) nb) rs)) same
        ∙ std_rows_told (head_in body) nb n (drop 24 body) (omega (arith, room, length-drop 24 body))
        ∙ ap (λ (k : ℕ). first (flat_map (entry_checks (moved ms) (index_base body) nb) (rows k n (drop 24 body)))) (sym wide)

    table_refused : (x : Tabled) → IsTabled b x → refused ms b (changes_of ms base x) ≡ first (table_checks (moved ms) base x)
    table_refused (old t) tabled = old_refused t tabled base
    table_refused (index t) tabled = go (is_super t.body) refl
      where
        go : (s : Bool) → is_super t.body ≡ s → refused ms b (index_changes ms t s) ≡ first (cond s [] (standard_checks (moved ms) t.body (first_counted (entries t.body))))
        go true e = or_nothing (refuse form.Super (misfits ms form.Super (used t.body) (drop (t.at + 24) b))) ∙ super_none (misfits ms form.Super (used t.body) (drop (t.at + 24) b))
        go false e = standard_refused t tabled e (first_counted (entries t.body))

    pub tables_refused : (xs : List Tabled) → AllByRecursion (IsTabled b) xs → refused ms b (flat_map (changes_of ms base) xs) ≡ first (flat_map (table_checks (moved ms) base) xs)
    tables_refused [] tabled = refl
    tables_refused (x ∷ xs) tabled =
        refused_both ms b (changes_of ms base x) (flat_map (changes_of ms base) xs)
        ∙ ap (λ (o : Option Size). or_else o (refused ms b (flat_map (changes_of ms base) xs))) (table_refused x tabled.0)
        ∙ ap (λ (o : Option Size). or_else (first (table_checks (moved ms) base x)) o) (tables_refused xs tabled.1)
        ∙ sym (first_both (table_checks (moved ms) base x) (flat_map (table_checks (moved ms) base) xs))
