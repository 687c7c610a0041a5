-- A movie before an edit is told as it is.
use Rattle.std.proofs.Common.{◌≡◌, ◌∙◌, ℕ, ◌+◌, ◌≤◌, false, List, [], ◌∷◌, length, map, refl, sym, ap, subst, arith}
use Rattle.std.specs.List.{AllByRecursion}
use Rattle.me_bytes.specs.Bytes.{IsBytes}
use Rattle.part_tree.specs.declared.names.Span.{Span}
use Rattle.container_model.specs.Atoms.{atoms_in}
use Rattle.container_model.specs.Chunk.{Chunk, spell_all}
use Rattle.mov_file.specs.Map.{IsMapOf}
use Rattle.mov_file.specs.declared.map.MovMap.{MovMap}
use Rattle.mov_model.specs.Carried.{Changes}
use Rattle.mov_model.specs.Movie.{movie_of}
use Rattle.mov_model.specs.Reading.{inside_at}
use Rattle.mov_model.proofs.Why.{none_supported}
use Rattle.mov_plan.specs.Atoms.{AllFollow, AreRow}
use Rattle.mov_plan.specs.Carriers.{EndsBy}
use Rattle.mov_plan.specs.Carry.{Tell, cells_of}
use Rattle.mov_plan.specs.Nested.{counted}
use Rattle.mov_plan.specs.Places.{Follow}
use Rattle.mov_plan.specs.declared.place.Place.{Place}
use Rattle.mov_plan.proofs.Laying.{kids_lie}
use Rattle.qt_atoms.specs.declared.walker.AtomAt.{AtomAt}
use Rattle.edit_planner.specs.MoovAtoms.{atoms_end, placed_by}
use Rattle.edit_planner.specs.MoovMap.{kids_end}
use Rattle.edit_planner.proofs.MoovPlaces.{end_is, places_follow, tells}

pub begins_is : (b : List ℕ) (m : MovMap) → IsMapOf b m → m.moov.body.at ≡ inside_at (movie_of b)
begins_is b m h = sym (ap (λ (s : Span). s.at) h.moov.body)

abbrev pub AreAtoms : List ℕ → List AtomAt → Type 0
AreAtoms b ks = AreRow b (inside_at (movie_of b)) ks (atoms_in (movie_of b).movie).chunks

pub ends_told : (b : List ℕ) (m : MovMap) (ks : List AtomAt) (end : ℕ) → IsMapOf b m → AreAtoms b ks → end ≡ atoms_end m.moov.body.at ks → end ≡ kids_end b
ends_told b m ks end h are e = e ∙ ap (λ (n : ℕ). atoms_end n ks) (begins_is b m h) ∙ end_is b (inside_at (movie_of b)) ks (atoms_in (movie_of b).movie).chunks are

pub places_told : (b : List ℕ) (m : MovMap) (ks : List AtomAt) (ns xs : List ℕ) (ps : List Place) → IsBytes b → IsMapOf b m → AreAtoms b ks → ps ≡ placed_by ks xs → xs ≡ ns → ns ≡ counted false (atoms_in (movie_of b).movie).chunks
    → Tell b false ps (cells_of (movie_of b))
places_told b m ks ns xs ps bytes h are e same is =
    let cs = (atoms_in (movie_of b).movie).chunks in
    let nothing : Changes = record { users = []; keys = [] } in
    subst (λ (qs : List Place). Tell b false qs (cells_of (movie_of b))) (sym (e ∙ ap (placed_by ks) (same ∙ is)))
    (tells b false (inside_at (movie_of b)) ks cs (kids_lie b bytes (none_supported b h.supported).readable nothing) are)

pub places_stand : (from end : ℕ) (ks : List AtomAt) (xs : List ℕ) (ps : List Place) (first last : ℕ) → first ≡ from → last ≡ atoms_end from ks → ps ≡ placed_by ks xs → length xs ≡ length ks → AllFollow from ks end → Follow first ps last
places_stand from end ks xs ps first last f l e n h =
    subst (λ (i : ℕ). Follow i ps last) (sym f) (subst (λ (i : ℕ). Follow from ps i) (sym l) (subst (λ (qs : List Place). Follow from qs (atoms_end from ks)) (sym e) (places_follow from ks xs end n h)))

-- the body of each atom ends by the end of all
pub bodies_end : (from end : ℕ) (ks : List AtomAt) → AllFollow from ks end → AllByRecursion (EndsBy end) ks
bodies_end from end [] h = tt
bodies_end from end (k ∷ ks) h = let o = h.0 in (omega (arith, o.behind, o.last), bodies_end k.next end ks h.1)
