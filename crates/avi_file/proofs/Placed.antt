-- Where parts stand: one more, and up to a later place.
use Rattle.std.proofs.Common.{◌≡◌, ℕ, ◌+◌, ◌≤◌, Bool, true, false, List, [], ◌∷◌, ◌++◌, refl, sym, ap, subst, arith}
use Rattle.std.specs.Prelude.{if◌then◌else◌, Result, OnOk}
use Rattle.std.specs.declared.result.Result.TheVariants.{Ok, Err}
use Rattle.std.proofs.lemmas.List.{append-nil}
use Rattle.part_tree.specs.declared.names.Span.{Span}
use Rattle.part_tree.specs.declared.part.Part.{Part}
use Rattle.avi_file.specs.Walk.{chosen, is_essence, essence_of, Ascend, Fits, AllFit, ArePlaced, KeepsPlaces}

pub ascend_on : (low at to : ℕ) (ss : List Span) → Ascend low ss at → at ≤ to → Ascend low ss to
ascend_on low at to [] h le = omega arith
ascend_on low at to (s ∷ ss) h le = (h.0, ascend_on (s.at + s.len) at to ss h.1 le)

pub ascend_more : (low at to : ℕ) (ss : List Span) (s : Span) → Ascend low ss at → at ≤ s.at → s.at + s.len ≤ to → Ascend low (ss ++ s ∷ []) to
ascend_more low at to [] s h le end = let less : low ≤ s.at = omega arith in (less, end)
ascend_more low at to (t ∷ ts) s h le end = (h.0, ascend_more (t.at + t.len) at to ts s h.1 le end)

pub chosen_append : (test : Part → Bool) (ps qs : List Part) → chosen test (ps ++ qs) ≡ chosen test ps ++ chosen test qs
chosen_append test [] qs = refl
chosen_append test (p ∷ ps) qs = go (test p) (chosen_append test ps qs)
  where
    go : (t : Bool) → chosen test (ps ++ qs) ≡ chosen test ps ++ chosen test qs → (if t then p.body ∷ chosen test (ps ++ qs) else chosen test (ps ++ qs)) ≡ (if t then p.body ∷ chosen test ps else chosen test ps) ++ chosen test qs
    go true e = ap (λ (ss : List Span). p.body ∷ ss) e
    go false e = e

fit_more : (end : ℕ) (ps : List Part) (p : Part) → AllFit end ps → Fits end p → AllFit end (ps ++ p ∷ [])
fit_more end [] p h one = (one, tt)
fit_more end (q ∷ qs) p h one = (h.0, fit_more end qs p h.1 one)

ascend_if : (t : Bool) (low at to : ℕ) (ss : List Span) (s : Span) → Ascend low ss at → at ≤ to → (t ≡ true → (at ≤ s.at) × (s.at + s.len ≤ to)) → Ascend low (ss ++ (if t then s ∷ [] else [])) to
ascend_if true low at to ss s h le both = ascend_more low at to ss s h (both refl).0 (both refl).1
ascend_if false low at to ss s h le both = subst (λ (x : List Span). Ascend low x to) (sym (append-nil ss)) (ascend_on low at to ss h le)

pub placed_if : (at to end : ℕ) (ps : List Part) (p : Part) → ArePlaced at end ps → at ≤ to → Fits end p → (is_essence p.role ≡ true → (at ≤ p.body.at) × (p.body.at + p.body.len ≤ to)) → ArePlaced to end (ps ++ p ∷ [])
placed_if at to end ps p h le one both = record {
  essence = subst (λ (x : List Span). Ascend 0 x to) (sym (chosen_append (λ q. is_essence q.role) ps (p ∷ []))) (ascend_if (is_essence p.role) 0 at to (essence_of ps) p.body h.essence le both);
  fit = fit_more end ps p h.fit one;
}

pub placed_on : (at to end : ℕ) (ps : List Part) → ArePlaced at end ps → at ≤ to → ArePlaced to end ps
placed_on at to end ps h le = record { essence = ascend_on 0 at to (essence_of ps) h.essence le; fit = h.fit }

-- one reading behind another
pub keeps_then : (a b c d first last to : ℕ) (ps qs rs : List Part) → KeepsPlaces a b first ps qs → KeepsPlaces c d last qs rs → b ≤ c → d ≤ to → first ≤ last → KeepsPlaces a to last ps rs
keeps_then a b c d first last to ps qs rs one two le on end_le end inside h =
    placed_on d to end rs (two end inside (placed_on b c end qs (one end (omega arith) h) le)) on

-- a reading inside a chunk, whose end comes later
pub keeps_in : (a b c d first last to : ℕ) (ps qs rs : List Part) → KeepsPlaces a b first ps qs → KeepsPlaces c d last qs rs → b ≤ c → d ≤ to → last ≤ first → KeepsPlaces a to first ps rs
keeps_in a b c d first last to ps qs rs one two le on end_le end inside h =
    placed_on d to end rs (two end (omega arith) (placed_on b c end qs (one end inside h) le)) on

-- a reading behind one that adds no part
pub keeps_after : (a c d last to bound : ℕ) (ps qs rs : List Part) → qs ≡ ps → KeepsPlaces c d last qs rs → a ≤ c → d ≤ to → last ≤ bound → KeepsPlaces a to bound ps rs
keeps_after a c d last to bound ps qs rs same two le on end_le end inside h =
    placed_on d to end rs (two end (omega arith) (subst (ArePlaced c end) (sym same) (placed_on a c end ps h le))) on

pub keeps_same : (a to last : ℕ) (ps : List Part) → a ≤ to → KeepsPlaces a to last ps ps
keeps_same a to last ps le end inside h = placed_on a to end ps h le

-- what holds at Ok follows from what holds at Ok
pub ok_then : {T E : Type 0} {P Q : Type 0} (r : Result T E) → (P → Q) → OnOk r P → OnOk r Q
ok_then (Ok x) f h = f h
ok_then (Err e) f h = tt

pub ok_always : {T E : Type 0} {P : Type 0} (r : Result T E) → P → OnOk r P
ok_always (Ok x) h = h
ok_always (Err e) h = tt
