-- The spans of an edit, of its names and of the form's pad, by their numbers alone.
use Rattle.std.proofs.Common.{◌≡◌, ◌∙◌, ◌⊎◌, ℕ, ◌+◌, ◌%◌, ◌≤◌, ◌<◌, Bool, true, false, cond, eqb, ltb, List, [], ◌∷◌, ◌++◌, refl, sym, ap, subst, arith, inl, inr, append-nil}
use Rattle.std.specs.Prelude.{◌&&◌}
use Rattle.std.specs.List.{AllByRecursion}
use Rattle.std.proofs.lemmas.Bool.{and_parts, cond-true, eq-eqb, eqb-true, ltb-true}
use Rattle.unit_plan.specs.declared.cut.CutAt.{CutAt}
use Rattle.unit_plan.specs.declared.row.UnitCuts.{UnitCuts}
use Rattle.unit_plan.specs.Cuts.{EndsFile, FitsIn, IsExact, SpansAscend}
use Rattle.unit_plan.specs.Sized.{gained, lost, size_at, spliced_len}
use Rattle.unit_plan.proofs.Spans.{ascend_high, lost_low}
use Rattle.avi_plan.specs.declared.form.FormAt.{FormAt}
use Rattle.avi_plan.specs.declared.names.NamesAt.{NamesAt}
use Rattle.avi_plan.specs.Form.{IsSoundForm, pad_now, pads, sizes}
use Rattle.avi_plan.specs.NamesAt.{StandNames}
use Rattle.avi_plan.specs.Patched.{FitsOn}
use Rattle.avi_plan.specs.Row.{IsJoined}
use Rattle.avi_plan.proofs.Patched.{fits_in_on}
use Rattle.avi_plan.proofs.Spans.{spans_low}

pub ascend_front : (from end at : ℕ) (low high : List CutAt) → SpansAscend from (low ++ high) end → from ≤ at → AllByRecursion (λ (k : CutAt). k.span.at + k.span.len ≤ at) low → SpansAscend from low at
ascend_front from end at [] high h le all = le
ascend_front from end at (k ∷ low) high h le all = (h.0, h.1, ascend_front (k.span.at + k.span.len) end at low high h.2 all.0 all.1)

pub ascend_back : (from end next : ℕ) (low high : List CutAt) → SpansAscend from (low ++ high) end → next ≤ end → AllByRecursion (λ (k : CutAt). next ≤ k.span.at) high → SpansAscend next high end
ascend_back from end next [] [] h le all = le
ascend_back from end next [] (k ∷ high) h le all = (all.0, h.1, h.2)
ascend_back from end next (k ∷ low) high h le all = ascend_back (k.span.at + k.span.len) end next low high h.2 le all

pub ascend_join : (from mid end : ℕ) (xs ys : List CutAt) → SpansAscend from xs mid → SpansAscend mid ys end → SpansAscend from (xs ++ ys) end
ascend_join from mid end [] ys h g = spans_low from mid end ys h g
ascend_join from mid end (k ∷ xs) ys h g = (h.0, h.1, ascend_join (k.span.at + k.span.len) mid end xs ys h.2 g)

pub all_join : (P : CutAt → Type 0) (xs ys : List CutAt) → AllByRecursion P xs → AllByRecursion P ys → AllByRecursion P (xs ++ ys)
all_join P [] ys h g = g
all_join P (x ∷ xs) ys h g = (h.0, all_join P xs ys h.1 g)

pub all_split : (P : CutAt → Type 0) (xs ys : List CutAt) → AllByRecursion P (xs ++ ys) → AllByRecursion P xs × AllByRecursion P ys
all_split P [] ys h = (tt, h)
all_split P (x ∷ xs) ys h = let r = all_split P xs ys h.1 in ((h.0, r.0), r.1)

-- ---- spans that are exact

pub exact_same : (ks : List CutAt) → AllByRecursion IsExact ks → gained ks ≡ lost ks
exact_same [] h = refl
exact_same (k ∷ ks) h = omega (arith, h.0, exact_same ks h.1)

-- none of them ends a file that is longer
pub exact_of : (from end len : ℕ) (ks : List CutAt) → end < len → SpansAscend from ks end → FitsIn len ks → AllByRecursion IsExact ks
exact_of from end len [] lt h f = tt
exact_of from end len (k ∷ ks) lt h f = (go f.0, exact_of (k.span.at + k.span.len) end len ks lt h.2 f.1)
  where
    go : IsExact k ⊎ (EndsFile len k × (ks ≡ [])) → IsExact k
    go (inl exact) = exact
    go (inr last) = absurd (omega (arith, last.0.0, lt, lost_low (k.span.at + k.span.len) end ks h.2))

pub stand_fits : (from end len : ℕ) (ends : Bool) (u : UnitCuts) → ends ≡ eqb end len → SpansAscend from u.cuts.items end → ((n : ℕ) → (ends ≡ true → end ≡ n) → u.fits ≡ true → FitsIn n u.cuts.items)
    → u.fits ≡ true → AllByRecursion IsExact u.cuts.items ⊎ ((end ≡ len) × FitsIn len u.cuts.items)
stand_fits from end len true u e h f fit = let same : end ≡ len = eqb-true end len (sym e) in inr (same, f len (λ t. same) fit)
stand_fits from end len false u e h f fit = inl (exact_of from end (end + 1) u.cuts.items (omega arith) h (f (end + 1) (λ t. absurd cc) fit))

pub fits_split : (len : ℕ) (xs ys : List CutAt) → FitsIn len (xs ++ ys) → FitsIn len ys
fits_split len [] ys h = h
fits_split len (x ∷ xs) ys h = fits_split len xs ys h.1

-- those before a place before the end are exact
pub fits_front : (from at len : ℕ) (xs ys : List CutAt) → SpansAscend from xs at → at < len → FitsIn len (xs ++ ys) → AllByRecursion IsExact xs
fits_front from at len [] ys h lt f = tt
fits_front from at len (k ∷ xs) ys h lt f = (go f.0, fits_front (k.span.at + k.span.len) at len xs ys h.2 lt f.1)
  where
    go : IsExact k ⊎ (EndsFile len k × (xs ++ ys ≡ [])) → IsExact k
    go (inl exact) = exact
    go (inr last) = absurd (omega (arith, last.0.0, lt, lost_low (k.span.at + k.span.len) at xs h.2))

pub on_exact : (len : ℕ) (xs ys : List CutAt) → AllByRecursion IsExact xs → FitsOn len ys → FitsOn len (xs ++ ys)
on_exact len [] ys h g = g
on_exact len (x ∷ xs) ys h g = (inl h.0, on_exact len xs ys h.1 g)

-- spans that begin where the file ends
pub all_end : (at len : ℕ) (ks : List CutAt) → at ≡ len → SpansAscend at ks len → AllByRecursion (EndsFile len) ks
all_end at len [] e h = tt
all_end at len (k ∷ ks) e h =
    let low = lost_low (k.span.at + k.span.len) len ks h.2 in
    ((omega (arith, e, h.0, low), omega (arith, e, h.0, h.1, low)), all_end (k.span.at + k.span.len) len ks (omega (arith, e, h.0, low)) h.2)

pub on_ends : (len : ℕ) (ks : List CutAt) → AllByRecursion (EndsFile len) ks → FitsOn len ks
on_ends len [] h = tt
on_ends len (k ∷ ks) h = (inr (h.0, h.1), on_ends len ks h.1)

pub on_last : (len : ℕ) (xs ys : List CutAt) → FitsIn len xs → AllByRecursion (EndsFile len) ys → FitsOn len (xs ++ ys)
on_last len [] ys h g = on_ends len ys g
on_last len (x ∷ xs) ys h g = (go h.0, on_last len xs ys h.1 g)
  where
    go : IsExact x ⊎ (EndsFile len x × (xs ≡ [])) → IsExact x ⊎ (EndsFile len x × AllByRecursion (EndsFile len) (xs ++ ys))
    go (inl exact) = inl exact
    go (inr last) = inr (last.0, subst (λ (zs : List CutAt). AllByRecursion (EndsFile len) (zs ++ ys)) (sym last.1) g)

-- ---- of a form

module _ (f : FormAt) (sound : IsSoundForm f) (names : NamesAt) (stand : StandNames f.len names) (others end : ℕ) (high : end ≤ 8 + f.size) (units u : UnitCuts) (asc : SpansAscend 12 units.cuts.items end) (j : IsJoined others end names units u) where
  inside : end ≤ f.len
  inside = omega (arith, high, sound.inside)

  split_asc : SpansAscend 12 (j.low ++ j.high) end
  split_asc = subst (λ (ks : List CutAt). SpansAscend 12 ks end) j.split asc

  pub low_asc : SpansAscend 12 j.low names.at
  low_asc = ascend_front 12 end names.at j.low j.high split_asc stand.low j.beside.low_ends

  pub high_asc : SpansAscend names.next j.high end
  high_asc = ascend_back 12 end names.next j.low j.high split_asc j.beside.inside j.beside.high_begins

  pub names_asc : SpansAscend names.at names.cuts.items names.next
  names_asc = spans_low names.at (names.at + 1) names.next names.cuts.items (omega arith) stand.ascend

  pub whole_asc : SpansAscend 12 u.cuts.items end
  whole_asc = subst (λ (ks : List CutAt). SpansAscend 12 ks end) (sym j.cuts_are) (ascend_join 12 names.at end j.low (names.cuts.items ++ j.high) low_asc (ascend_join names.at names.next end names.cuts.items j.high names_asc high_asc))

  pub file_asc : SpansAscend 0 u.cuts.items f.len
  file_asc = spans_low 0 12 f.len u.cuts.items (omega arith) (ascend_high 12 end f.len u.cuts.items inside whole_asc)

  pub moved_more : f.len ≤ spliced_len f.len u.cuts.items + f.size
  moved_more = omega (arith, lost_low 12 end u.cuts.items whole_asc, high, sound.inside)

  pad_fits : 8 + f.size + pad_now f ≤ f.len
  pad_fits = go (eqb (f.size % 2) 1 && ltb (8 + f.size) f.len) refl
    where
      go : (t : Bool) → (eqb (f.size % 2) 1 && ltb (8 + f.size) f.len) ≡ t → 8 + f.size + cond t 1 0 ≤ f.len
      go true e = omega (arith, ltb-true (8 + f.size) f.len (and_parts (eqb (f.size % 2) 1) (ltb (8 + f.size) f.len) e).1)
      go false e = omega (arith, sound.inside)

  pub padded_asc : (n : ℕ) (stays : Bool) → SpansAscend 8 (u.cuts.items ++ pads f n stays) f.len
  padded_asc n stays = spans_low 8 12 f.len (u.cuts.items ++ pads f n stays) (omega arith) (ascend_join 12 end f.len u.cuts.items (pads f n stays) whole_asc (go stays))
    where
      go : (t : Bool) → SpansAscend end (pads f n t) f.len
      go true = inside
      go false = (high, omega arith, pad_fits)

  -- how each of the units and the names fits
  abbrev pub HowFits : Type 0
  HowFits = units.fits ≡ true → AllByRecursion IsExact units.cuts.items ⊎ ((end ≡ f.len) × FitsIn f.len units.cuts.items)

  exact_on : (n : ℕ) (stays : Bool) → n + f.len ≡ spliced_len f.len u.cuts.items + f.size → (n ≡ f.size → stays ≡ true) → AllByRecursion IsExact u.cuts.items → FitsOn f.len (sizes f n ++ (u.cuts.items ++ pads f n stays))
  exact_on n stays sum still exact =
      let same : n ≡ f.size = omega (arith, sum, exact_same u.cuts.items exact, lost_low 0 f.len u.cuts.items file_asc) in
      let none : sizes f n ≡ [] = cond-true (eqb n f.size) [] (size_at false n ∷ []) (eq-eqb n f.size same) in
      let last : pads f n stays ≡ [] = ap (pads f n) (still same) in
      subst (FitsOn f.len) (sym (ap (λ (ks : List CutAt). ks ++ (u.cuts.items ++ pads f n stays)) none ∙ ap (λ (ks : List CutAt). u.cuts.items ++ ks) last)) (on_exact f.len u.cuts.items [] exact tt)

  size_on : (n : ℕ) (ks : List CutAt) → FitsOn f.len ks → FitsOn f.len (sizes f n ++ ks)
  size_on n ks h = go (eqb n f.size)
    where
      go : (t : Bool) → FitsOn f.len (cond t [] (size_at false n ∷ []) ++ ks)
      go true = h
      go false = (inl refl, h)

  last_on : (n : ℕ) (stays : Bool) → (f.len ≡ 8 + f.size → stays ≡ true) → end ≡ f.len → FitsOn f.len u.cuts.items → FitsOn f.len (sizes f n ++ (u.cuts.items ++ pads f n stays))
  last_on n stays last ends h =
      let none : pads f n stays ≡ [] = ap (pads f n) (last (omega (arith, ends, high, sound.inside))) in
      size_on n (u.cuts.items ++ pads f n stays) (subst (FitsOn f.len) (sym (ap (λ (ks : List CutAt). u.cuts.items ++ ks) none ∙ append-nil u.cuts.items)) h)

  joined_on : FitsOn f.len (j.low ++ (names.cuts.items ++ j.high)) → FitsOn f.len u.cuts.items
  joined_on h = subst (FitsOn f.len) (sym j.cuts_are) h

  pub joined_fits : (n : ℕ) (stays : Bool) → n + f.len ≡ spliced_len f.len u.cuts.items + f.size → (n ≡ f.size → stays ≡ true) → (f.len ≡ 8 + f.size → stays ≡ true) → HowFits → u.fits ≡ true
      → FitsOn f.len (sizes f n ++ (u.cuts.items ++ pads f n stays))
  joined_fits n stays sum still last how fit =
      let both = and_parts names.fits units.fits (sym j.fits ∙ fit) in
      go (stand.fits both.0) (how both.1)
    where
      before : names.at < f.len
      before = omega (arith, stand.order, j.beside.inside, inside)

      low_exact : AllByRecursion IsExact units.cuts.items ⊎ ((end ≡ f.len) × FitsIn f.len units.cuts.items) → AllByRecursion IsExact j.low
      low_exact (inl exact) = (all_split IsExact j.low j.high (subst (AllByRecursion IsExact) j.split exact)).0
      low_exact (inr ends) = fits_front 12 names.at f.len j.low j.high low_asc before (subst (FitsIn f.len) j.split ends.1)

      go : AllByRecursion IsExact names.cuts.items ⊎ ((names.next ≡ f.len) × FitsIn f.len names.cuts.items) → AllByRecursion IsExact units.cuts.items ⊎ ((end ≡ f.len) × FitsIn f.len units.cuts.items)
          → FitsOn f.len (sizes f n ++ (u.cuts.items ++ pads f n stays))
      go (inl exact) (inl all) =
          let parts = all_split IsExact j.low j.high (subst (AllByRecursion IsExact) j.split all) in
          exact_on n stays sum still (subst (AllByRecursion IsExact) (sym j.cuts_are) (all_join IsExact j.low (names.cuts.items ++ j.high) parts.0 (all_join IsExact names.cuts.items j.high exact parts.1)))
      go (inl exact) (inr ends) =
          last_on n stays last ends.0
          (joined_on (on_exact f.len j.low (names.cuts.items ++ j.high) (low_exact (inr ends)) (on_exact f.len names.cuts.items j.high exact (fits_in_on f.len j.high (fits_split f.len j.low j.high (subst (FitsIn f.len) j.split ends.1))))))
      go (inr ends) other =
          let there : end ≡ f.len = omega (arith, ends.0, j.beside.inside, inside) in
          last_on n stays last there
          (joined_on
          (on_exact f.len j.low (names.cuts.items ++ j.high) (low_exact other)
          (on_last f.len names.cuts.items j.high ends.1 (all_end names.next f.len j.high ends.0 (subst (λ (q : ℕ). SpansAscend names.next j.high q) there high_asc)))))
