-- Where the units and the names fit, the patches are those of the edit.
use Rattle.std.proofs.Common.{◌≡◌, ◌∙◌, ◌⊎◌, ℕ, ◌+◌, ◌-◌, ◌≤◌, ◌<◌, Bool, true, false, cond, eqb, ltb, List, [], ◌∷◌, ◌++◌, length, refl, sym, ap, subst, arith, inl, inr, append_assoc}
use Rattle.std.specs.List.{AllByRecursion, flat_map}
use Rattle.std.specs.Int.{w32, to_le_bytes}
use Rattle.std.proofs.lemmas.Bool.{cond-false, cond-true, eq-eqb, eqb-false, eqb-true, le-ltb, lt-ltb}
use Rattle.std.proofs.lemmas.List.{nil_from_length}
use Rattle.part_tree.specs.declared.plan.Patch.{Patch}
use Rattle.container_model.specs.Chunk.{riff}
use Rattle.carrier_model.specs.Room.{patch}
use Rattle.carrier_model.specs.RiffForm.{size_patch}
use Rattle.avi_model.specs.RoomAfter.{put_patch, put_patches}
use Rattle.unit_plan.specs.Cuts.{EndsFile, FitsIn, IsExact, SpansAscend, patch_of}
use Rattle.unit_plan.specs.Sized.{gained, lost, size_at}
use Rattle.unit_plan.specs.declared.cut.CutAt.{CutAt}
use Rattle.unit_plan.proofs.Spans.{lost_low}
use Rattle.avi_plan.specs.declared.form.FormAt.{FormAt}
use Rattle.avi_plan.specs.Form.{sizes}
use Rattle.avi_plan.specs.Patched.{patches_from, placed_patches}
use Rattle.avi_plan.proofs.Slid.{SlidPatches}

-- ---- patches put between others

abbrev pub Rises : ℕ → List Patch → ℕ → Type 0
Rises from [] end = Unit {0}
Rises from (p ∷ ps) end = (from ≤ p.at) × (p.at ≤ end) × Rises p.at ps end

put_here : (p : Patch) (ps high : List Patch) (end : ℕ) → p.at ≤ end → Rises p.at ps end → AllByRecursion (λ (q : Patch). end ≤ q.at) high → put_patch p (ps ++ high) ≡ p ∷ (ps ++ high)
put_here p [] [] end le r h = refl
put_here p [] (q ∷ high) end le r h = cond-false (ltb q.at p.at) (q ∷ put_patch p high) (p ∷ (q ∷ high)) (le-ltb q.at p.at (omega (arith, le, h.0)))
put_here p (q ∷ ps) high end le r h = cond-false (ltb q.at p.at) (q ∷ put_patch p (ps ++ high)) (p ∷ (q ∷ (ps ++ high))) (le-ltb q.at p.at r.0)

puts_here : (from end : ℕ) (ps high : List Patch) → Rises from ps end → AllByRecursion (λ (q : Patch). end ≤ q.at) high → put_patches ps high ≡ ps ++ high
puts_here from end [] high r h = refl
puts_here from end (p ∷ ps) high r h = ap (put_patch p) (puts_here p.at end ps high r.2 h) ∙ put_here p ps high end r.1 r.2 h

puts_behind : (from end : ℕ) (d : Patch) (ps qs : List Patch) → d.at < from → Rises from ps end → put_patches ps (d ∷ qs) ≡ d ∷ put_patches ps qs
puts_behind from end d [] qs lt r = refl
puts_behind from end d (p ∷ ps) qs lt r =
    ap (put_patch p) (puts_behind p.at end d ps qs (omega (arith, lt, r.0)) r.2) ∙ cond-true (ltb d.at p.at) (d ∷ put_patch p (put_patches ps qs)) (p ∷ (d ∷ put_patches ps qs)) (lt-ltb d.at p.at (omega (arith, lt, r.0)))

pub puts_between : (from end : ℕ) (ps low high : List Patch) → Rises (from + 1) ps end → AllByRecursion (λ (q : Patch). q.at ≤ from) low → AllByRecursion (λ (q : Patch). end ≤ q.at) high → put_patches ps (low ++ high) ≡ low ++ (ps ++ high)
puts_between from end ps [] high r l h = puts_here (from + 1) end ps high r h
puts_between from end ps (d ∷ low) high r l h = puts_behind (from + 1) end d ps (low ++ high) (omega (arith, l.0)) r ∙ ap (λ (qs : List Patch). d ∷ qs) (puts_between from end ps low high r l.1 h)

-- ---- spans in turn

same_start : (q r end : ℕ) (rest : List CutAt) → q ≤ r → SpansAscend r rest end → patches_from q q rest ≡ patches_from r r rest
same_start q r end [] le h = refl
same_start q r end (k ∷ rest) le h =
    let at : q + (k.span.at - q) ≡ r + (k.span.at - r) = omega (arith, le, h.0) in
    ap (λ (n : ℕ). patch n k.bytes ++ patches_from (k.span.at + k.span.len) (n + (length k.bytes + k.keep)) rest) at

-- those that are exact, before others
pub exact_front : (q r end : ℕ) (low rest : List CutAt) → SpansAscend q low r → AllByRecursion IsExact low → SpansAscend r rest end → patches_from q q (low ++ rest) ≡ flat_map patch_of low ++ patches_from r r rest
exact_front q r end [] rest h e g = same_start q r end rest h g
exact_front q r end (k ∷ low) rest h e g =
    let at : q + (k.span.at - q) ≡ k.span.at = omega (arith, h.0) in
    let to : k.span.at + (length k.bytes + k.keep) ≡ k.span.at + k.span.len = omega (arith, e.0) in
    ap (λ (n : ℕ). patch n k.bytes ++ patches_from (k.span.at + k.span.len) (n + (length k.bytes + k.keep)) (low ++ rest)) at
    ∙ ap (λ (n : ℕ). patch k.span.at k.bytes ++ patches_from (k.span.at + k.span.len) n (low ++ rest)) to
    ∙ ap (λ (ps : List Patch). patch k.span.at k.bytes ++ ps) (exact_front (k.span.at + k.span.len) r end low rest h.2 e.1 g)
    ∙ sym (append_assoc (patch k.span.at k.bytes) (flat_map patch_of low) (patches_from r r rest))

-- those of which the last one may end the file
pub fit_patches : (q len : ℕ) (ks : List CutAt) → SpansAscend q ks len → FitsIn len ks → patches_from q q ks ≡ flat_map patch_of ks
fit_patches q len [] h f = refl
fit_patches q len (k ∷ ks) h f = ap (λ (n : ℕ). patch n k.bytes ++ patches_from (k.span.at + k.span.len) (n + (length k.bytes + k.keep)) ks) at ∙ ap (λ (ps : List Patch). patch k.span.at k.bytes ++ ps) (go f.0 (fit_patches (k.span.at + k.span.len) len ks h.2 f.1))
  where
    at : q + (k.span.at - q) ≡ k.span.at
    at = omega (arith, h.0)

    go : IsExact k ⊎ (EndsFile len k × (ks ≡ [])) → patches_from (k.span.at + k.span.len) (k.span.at + k.span.len) ks ≡ flat_map patch_of ks → patches_from (k.span.at + k.span.len) (k.span.at + (length k.bytes + k.keep)) ks ≡ flat_map patch_of ks
    go (inl e) again = let to : k.span.at + (length k.bytes + k.keep) ≡ k.span.at + k.span.len = omega (arith, e) in ap (λ (n : ℕ). patches_from (k.span.at + k.span.len) n ks) to ∙ again
    go (inr e) again = ap (patches_from (k.span.at + k.span.len) (k.span.at + (length k.bytes + k.keep))) e.1 ∙ sym (ap (flat_map patch_of) e.1)

-- those of which the last one ends the file, before others there
pub last_front : (q len t : ℕ) (ks rest : List CutAt) → SpansAscend q ks len → FitsIn len ks → t + lost ks ≡ len + gained ks → SpansAscend len rest len → patches_from q q (ks ++ rest) ≡ flat_map patch_of ks ++ patches_from len t rest
last_front q len t [] rest h f e g = same_start q len len rest h g ∙ ap (λ (n : ℕ). patches_from len n rest) (omega (arith, e))
last_front q len t (k ∷ ks) rest h f e g =
    ap (λ (n : ℕ). patch n k.bytes ++ patches_from (k.span.at + k.span.len) (n + (length k.bytes + k.keep)) (ks ++ rest)) at
    ∙ ap (λ (ps : List Patch). patch k.span.at k.bytes ++ ps) (go f.0 (λ exact. last_front (k.span.at + k.span.len) len t ks rest h.2 f.1 (omega (arith, e, exact)) g))
    ∙ sym (append_assoc (patch k.span.at k.bytes) (flat_map patch_of ks) (patches_from len t rest))
  where
    at : q + (k.span.at - q) ≡ k.span.at
    at = omega (arith, h.0)

    go : IsExact k ⊎ (EndsFile len k × (ks ≡ [])) → (IsExact k → patches_from (k.span.at + k.span.len) (k.span.at + k.span.len) (ks ++ rest) ≡ flat_map patch_of ks ++ patches_from len t rest)
        → patches_from (k.span.at + k.span.len) (k.span.at + (length k.bytes + k.keep)) (ks ++ rest) ≡ flat_map patch_of ks ++ patches_from len t rest
    go (inl exact) again = let to : k.span.at + (length k.bytes + k.keep) ≡ k.span.at + k.span.len = omega (arith, exact) in ap (λ (n : ℕ). patches_from (k.span.at + k.span.len) n (ks ++ rest)) to ∙ again exact
    go (inr last) again =
        let to : k.span.at + (length k.bytes + k.keep) ≡ t = omega (arith, e, last.0.0, ap gained last.1, ap lost last.1) in
        ap (λ (js : List CutAt). patches_from (k.span.at + k.span.len) (k.span.at + (length k.bytes + k.keep)) (js ++ rest)) last.1
        ∙ ap (λ (n : ℕ). patches_from n (k.span.at + (length k.bytes + k.keep)) rest) last.0.0 ∙ ap (λ (n : ℕ). patches_from len n rest) to
        ∙ sym (ap (λ (js : List CutAt). flat_map patch_of js ++ patches_from len t rest) last.1)

-- spans at the end of the file, which was there and is elsewhere then
pub end_patches : (len t : ℕ) (ks : List CutAt) (ps : List Patch) → SpansAscend len ks len → FitsIn len ks → SlidPatches len t (flat_map patch_of ks) ps → patches_from len t ks ≡ ps
end_patches len t [] [] h f s = refl
end_patches len t [] (p ∷ ps) h f s = absurd s
end_patches len t (k ∷ ks) ps h f s = go f.0 s (λ g i. end_patches len t ks ps g f.1 i)
  where
    low : lost ks + (k.span.at + k.span.len) ≤ len
    low = lost_low (k.span.at + k.span.len) len ks h.2

    place : t + (k.span.at - len) ≡ t
    place = omega (arith, h.0, low)

    ends : k.span.at + k.span.len ≡ len
    ends = omega (arith, h.0, low)

    one : (w : List ℕ) (ps : List Patch) → SlidPatches len t (patch k.span.at w ++ []) ps → patch t w ++ [] ≡ ps
    one [] [] s = refl
    one [] (p ∷ ps) s = absurd s
    one (v ∷ w) [] s = absurd s
    one (v ∷ w) (p ∷ []) s =
        let at : t ≡ p.at = omega (arith, s.1, h.0, low) in
        ap (λ (n : ℕ). record { at = n; bytes = v ∷ w } ∷ []) at ∙ ap (λ (x : List ℕ). record { at = p.at; bytes = x } ∷ []) s.2
    one (v ∷ w) (p ∷ (r ∷ ps)) s = absurd s.3

    go : IsExact k ⊎ (EndsFile len k × (ks ≡ [])) → SlidPatches len t (patch k.span.at k.bytes ++ flat_map patch_of ks) ps → (SpansAscend len ks len → SlidPatches len t (flat_map patch_of ks) ps → patches_from len t ks ≡ ps)
        → patches_from len t (k ∷ ks) ≡ ps
    go (inl exact) s again =
        let none : k.bytes ≡ [] = nil_from_length k.bytes (omega (arith, exact, h.0, low)) in
        let to : t + (k.span.at - len) + (length k.bytes + k.keep) ≡ t = omega (arith, place, exact, h.0, low) in
        ap (λ (w : List ℕ). patch (t + (k.span.at - len)) w ++ patches_from (k.span.at + k.span.len) (t + (k.span.at - len) + (length k.bytes + k.keep)) ks) none
        ∙ ap (λ (n : ℕ). patches_from n (t + (k.span.at - len) + (length k.bytes + k.keep)) ks) ends ∙ ap (λ (n : ℕ). patches_from len n ks) to
        ∙ again (subst (λ (n : ℕ). SpansAscend n ks len) ends h.2) (subst (λ (w : List ℕ). SlidPatches len t (patch k.span.at w ++ flat_map patch_of ks) ps) none s)
    go (inr last) s again =
        ap (λ (n : ℕ). patch n k.bytes ++ patches_from (k.span.at + k.span.len) (t + (k.span.at - len) + (length k.bytes + k.keep)) ks) place
        ∙ ap (λ (js : List CutAt). patch t k.bytes ++ patches_from (k.span.at + k.span.len) (t + (k.span.at - len) + (length k.bytes + k.keep)) js) last.1
        ∙ one k.bytes ps (subst (λ (js : List CutAt). SlidPatches len t (patch k.span.at k.bytes ++ flat_map patch_of js) ps) last.1 s)

-- ---- the size before them

pub size_front : (f : FormAt) (n end : ℕ) (rest : List CutAt) → SpansAscend 8 rest end → placed_patches (sizes f n ++ rest) ≡ size_patch riff f.size n ++ patches_from 8 8 rest
size_front f n end rest h = go (eqb n f.size) refl
  where
    go : (t : Bool) → eqb n f.size ≡ t → patches_from 0 0 (cond t [] (size_at false n ∷ []) ++ rest) ≡ cond (eqb f.size n) [] (patch 4 (to_le_bytes w32 n)) ++ patches_from 8 8 rest
    go true e =
        same_start 0 8 end rest (omega arith) h
        ∙ sym (ap (λ (t : Bool). cond t [] (patch 4 (to_le_bytes w32 n)) ++ patches_from 8 8 rest) (eq-eqb f.size n (sym (eqb-true n f.size e))))
    go false e =
        let to : 4 + (length (to_le_bytes w32 n) + 0) ≡ 8 = omega arith in
        let no : eqb f.size n ≡ false = by (eqb f.size n) refl in
        ap (λ (q : ℕ). patch 4 (to_le_bytes w32 n) ++ patches_from 8 q rest) to
        ∙ sym (ap (λ (t : Bool). cond t [] (patch 4 (to_le_bytes w32 n)) ++ patches_from 8 8 rest) no)
      where
        by : (t : Bool) → eqb f.size n ≡ t → t ≡ false
        by false i = refl
        by true i = absurd (eqb-false n f.size e (sym (eqb-true f.size n i)))
