-- The atoms of `moov` as places tell the atoms of the definitions.
use Rattle.std.proofs.Common.{◌≡◌, ◌∙◌, ℕ, suc, ◌+◌, ◌-◌, ◌<◌, ◌≤◌, Bool, true, false, cond, List, [], ◌∷◌, ◌++◌, length, map, take, drop, refl, sym, ap, subst, arith}
use Rattle.std.specs.Prelude.{◌||◌}
use Rattle.std.proofs.lemmas.List.{at_drop_all, drop_at, length-append, take_at}
use Rattle.container_model.specs.Chunk.{Chunk, spell, spell_all}
use Rattle.container_model.specs.Windows.{window}
use Rattle.mov_model.specs.Atoms.{cell_by, cell_of, is_padding}
use Rattle.mov_model.proofs.Carry.{padding_not}
use Rattle.mov_model.proofs.Cells.{is_user, user_sort}
use Rattle.mov_plan.specs.Atoms.{AllFollow, AreRow}
use Rattle.mov_plan.specs.Carry.{Tell}
use Rattle.mov_plan.specs.Nested.{counted}
use Rattle.mov_plan.specs.Places.{Follow}
use Rattle.mov_plan.specs.Shapes.{atoms_of}
use Rattle.mov_plan.specs.declared.place.Place.{Place}
use Rattle.mov_plan.proofs.Lying.{Lies, lie_first, lie_then}
use Rattle.qt_atoms.specs.Walk.{atom_in}
use Rattle.qt_atoms.specs.declared.walker.AtomAt.{AtomAt}
use Rattle.qt_text.specs.User.{udta}
use Rattle.unit_plan.specs.declared.place.What.{What}
use Rattle.unit_plan.specs.declared.place.What.TheVariants.{Pads, Stays}
use Rattle.edit_planner.specs.MoovAtoms.{atoms_end, place_with, placed_by}

-- ---- on every depot

pub ends_inside : (from : ℕ) (ks : List AtomAt) (end : ℕ) → AllFollow from ks end → (from ≤ atoms_end from ks) × (atoms_end from ks ≤ end)
ends_inside from [] end h = (omega arith, h)
ends_inside from (k ∷ ks) end h = let o = h.0 in let r = ends_inside k.next ks end h.1 in (omega (arith, r.0, o.body, o.behind), r.1)

pub places_follow : (from : ℕ) (ks : List AtomAt) (ns : List ℕ) (end : ℕ) → length ns ≡ length ks → AllFollow from ks end → Follow from (placed_by ks ns) (atoms_end from ks)
places_follow from [] ns end e h = refl
places_follow from (k ∷ ks) [] end e h = absurd (omega (arith, e))
places_follow from (k ∷ ks) (n ∷ ns) end e h =
    let o = h.0 in
    let r = ends_inside k.next ks end h.1 in
    (o.begins, omega (arith, o.begins, o.body, o.behind), r.0, places_follow k.next ks ns end (omega (arith, e)) h.1)

-- ---- in a file

pub end_is : (b : List ℕ) (from : ℕ) (ks : List AtomAt) (cs : List Chunk) → AreRow b from ks cs → atoms_end from ks ≡ from + length (spell_all cs)
end_is b from [] [] h = omega arith
end_is b from [] (c ∷ cs) h = absurd h
end_is b from (k ∷ ks) [] h = absurd h
end_is b from (k ∷ ks) (c ∷ cs) h = omega (arith, end_is b k.next ks cs h.3, h.2, length-append (spell c) (spell_all cs))

lies_there : (b : List ℕ) (at next : ℕ) (x : List ℕ) → Lies b at x → next ≡ at + length x → window b at next ≡ x
lies_there b at next x l e =
    let long : next - at ≡ length x = omega (arith, e) in
    ap (λ (n : ℕ). take n (drop at b)) long ∙ ap (take (length x)) l.1 ∙ take_at x l.0 (length x) refl

or_none : (a : Bool) → (a || false) ≡ a
or_none true = refl
or_none false = refl

pub tells : (b : List ℕ) (seen : Bool) (from : ℕ) (ks : List AtomAt) (cs : List Chunk) → Lies b from (spell_all cs) → AreRow b from ks cs → Tell b seen (placed_by ks (counted seen cs)) (map cell_of cs)
tells b seen from [] [] l h = tt
tells b seen from [] (c ∷ cs) l h = absurd h
tells b seen from (k ∷ ks) [] l h = absurd h
tells b seen from (k ∷ ks) (c ∷ cs) l h =
    go (is_padding c.id) refl (λ s. tells b s k.next ks cs (subst (λ (n : ℕ). Lies b n (spell_all cs)) (sym h.2) (lie_then b from (spell c) (spell_all cs) l)) h.3)
  where
    rest : Bool → List Place
    rest s = placed_by ks (counted s cs)

    here : window b k.at k.next ≡ spell c
    here = ap (λ (n : ℕ). window b n k.next) h.0 ∙ lies_there b from k.next (spell c) (lie_first b from (spell c) (spell_all cs) l) h.2

    what_is : (t : Bool) → is_padding c.id ≡ t → cond (is_padding k.kind.0) Pads Stays ≡ cond t Pads Stays
    what_is t e = ap (λ (x : List ℕ). cond (is_padding x) Pads Stays) (ap (λ (d : Chunk). d.id) h.1) ∙ ap (λ (u : Bool). cond u Pads Stays) e

    go : (t : Bool) → is_padding c.id ≡ t → ((s : Bool) → Tell b s (placed_by ks (counted s cs)) (map cell_of cs)) → Tell b seen (place_with k (atoms_of seen c) ∷ placed_by ks (counted (seen || udta.is c) cs)) (cell_by c t ∷ map cell_of cs)
    go true e again =
        let none : udta.is c ≡ false = padding_not is_user user_sort c e in
        let same : (seen || udta.is c) ≡ seen = ap (λ (t : Bool). seen || t) none ∙ or_none seen in
        (what_is true e, here, refl, none, subst (λ (s : Bool). Tell b seen (placed_by ks (counted s cs)) (map cell_of cs)) (sym same) (again seen))
    go false e again = (what_is false e, here, omega (arith, h.0, h.2), refl, again (seen || udta.is c))
