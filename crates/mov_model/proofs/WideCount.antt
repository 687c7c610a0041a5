-- As many atoms are met in a movie with wide tables.
use Rattle.std.proofs.Common.{Bool, List, None, Option, Some, [], ap, arith, false, inl, inr, length, map, refl, suc, sym, take, true, zero, ℕ, ◌++◌, ◌+◌, ◌^◌, ◌∙◌, ◌∷◌, ◌≡◌, ◌≤◌}
use Rattle.std.specs.Prelude.{not, ◌&&◌, ◌||◌, ◌⊎◌}
use Rattle.std.specs.List.{AllByRecursion, flat_map}
use Rattle.std.proofs.lemmas.List.{length-append}
use Rattle.container_model.proofs.Atoms.{atoms_give_back}
use Rattle.container_model.proofs.Codec.{IsBytes, chunks_spelled}
use Rattle.container_model.proofs.Moved.{atom_moves}
use Rattle.container_model.proofs.Read.{atoms_again}
use Rattle.container_model.proofs.Walk.{mend_nested, walk_nested}
use Rattle.container_model.specs.Chunk.{Chunk, Run, ends, spell}
use Rattle.container_model.specs.Cuts.{changed_piece}
use Rattle.container_model.specs.Deep.{Leaf, Whole, Whole_at, kids, leaves, leaves_at, with_kids}
use Rattle.container_model.specs.Sizes.{atom_front, inside}
use Rattle.container_model.specs.Units.{Fill, Piece, copied, lay, padded, replaced, unit_bytes}
use Rattle.container_model.specs.Walk.{body_at, end_at, nested, nested_at, walk}
use Rattle.mov_model.specs.Atoms.{Place, format, moov, opens, user_data}
use Rattle.mov_model.specs.Reading.{atoms_met, inside_steps, kid_steps, row}
use Rattle.mov_model.specs.Tables.{moved_leaf, relocated}
use Rattle.mov_model.specs.Widen.{wide_at, wide_in}
use Rattle.mov_model.proofs.Makes.{Copied}
use Rattle.mov_model.proofs.Steps.{met_both, met_row}
use Rattle.mov_model.proofs.Tables.{keeps, opens_again}
use Rattle.mov_model.proofs.WideDeep.{Ready, all_wide, body_bytes, kids_ready, tables_of, wide_deep}
use Rattle.mov_model.proofs.WideGrown.{ready_each}
use Rattle.qt_text.specs.User.{udta}
use Rattle.sample_tables.specs.Tables.{is_short_table}

-- ---- the atoms in an atom

each_count : (d : ℕ) (q : Place) → ((c : Chunk) → Ready d q c → length (nested format d q (wide_in d q c)) ≡ length (nested format d q c)) → (cs : List Chunk) → AllByRecursion (Ready d q) cs
    → length (flat_map (nested format d q) (map (wide_in d q) cs)) ≡ length (flat_map (nested format d q) cs)
each_count d q each [] r = refl
each_count d q each (c ∷ cs) r =
    omega (
      arith,
      each c r.0,
      each_count d q each cs r.1,
      length-append (nested format d q (wide_in d q c)) (flat_map (nested format d q) (map (wide_in d q) cs)),
      length-append (nested format d q c) (flat_map (nested format d q) cs),
    )

at_count : (d : ℕ) → ((q : Place) (c : Chunk) → Ready d q c → length (nested format d q (wide_in d q c)) ≡ length (nested format d q c)) → (p : Place) (c : Chunk) (o : Option Place) → IsBytes (spell c) → Whole_at format (Whole format d) c o
    → AllByRecursion (λ c. is_short_table c ≡ false) (tables_of (leaves_at format (leaves format d) p c o)) → length c.body ≤ 2 ^ 26 → length (nested_at format (nested format d) (wide_at (wide_in d) p c o) o) ≡ length (nested_at format (nested format d) c o)
at_count d each p c None h w t small = refl
at_count d each p c (Some q) h w t small =
    let k = kids format q c in
    let ready = kids_ready d q c (body_bytes c h) w.0 w.2 t small in
    let wide = all_wide d q (wide_in d q) (wide_deep d q) k.chunks ready.0 in
    let es = map (wide_in d q) k.chunks in
    let again : kids format q (with_kids format q c es) ≡ record { chunks = es; stop = ends; left = k.left } = chunks_spelled atom_front inside es k.left (atoms_again inside es k.left wide.read ready.1) in
    ap (λ (r : Run). length (flat_map (nested format d q) r.chunks)) again ∙ each_count d q (each q) k.chunks (ready_each d q k.chunks ready.0)

pub wide_count : (d : ℕ) (p : Place) (c : Chunk) → Ready d p c → length (nested format d p (wide_in d p c)) ≡ length (nested format d p c)
unfolding wide_in nested Whole leaves
wide_count zero p c r = refl
wide_count (suc d) p c r =
    let o = opens p c.id (take 4 c.body) in
    let e = wide_at (wide_in d) p c o in
    let same = (wide_deep (suc d) p c r).opens_same in
    ap (λ (x : Option Place). suc (length (nested_at format (nested format d) e x))) same ∙ ap suc (at_count d (λ q k y. wide_count d q k y) p c o r.bytes r.whole r.tables r.small)

-- one for each atom
abbrev one : Leaf Place → List ℕ
one l = 0 ∷ []

ones : (ls : List (Leaf Place)) → length (flat_map one ls) ≡ length ls
ones [] = refl
ones (l ∷ ls) = ap suc (ones ls)

pub relocated_count : (f : ℕ → ℕ) (c : Chunk) → Whole format 5 moov c → IsBytes c.body → length (nested format 5 moov (relocated f c)) ≡ length (nested format 5 moov c)
relocated_count f c w b =
    sym (ones (nested format 5 moov (relocated f c))) ∙ ap length (mend_nested format atoms_give_back atom_moves (moved_leaf f) (keeps f) one (λ p a d e. refl) (opens_again f) 5 moov c w b) ∙ ones (nested format 5 moov c)

-- ---- atoms side by side

met_walk : (at : ℕ) (c : Chunk) → atoms_met (walk format 5 moov at c) ≡ length (nested format 5 moov c)
met_walk at c = ap length (walk_nested format 5 moov at c)

-- the same atom, or two that are no user data and hold as many atoms
abbrev pub SameMet : Chunk → Chunk → Type 0
SameMet c d = (c ≡ d) ⊎ ((udta.is c ≡ false) × (udta.is d ≡ false) × (length (nested format 5 moov c) ≡ length (nested format 5 moov d)))

-- so one by one
abbrev pub Side : List Chunk → List Chunk → Type 0
Side [] [] = Unit {0}
Side [] (d ∷ ds) = ⊥
Side (c ∷ cs) [] = ⊥
Side (c ∷ cs) (d ∷ ds) = SameMet c d × Side cs ds

kid_places : (b : Bool) (at to : ℕ) (c : Chunk) → atoms_met (kid_steps b at c) ≡ atoms_met (kid_steps b to c)
kid_places true at to c =
    let ks = (udta.opening c).chunks in
    omega (
      arith,
      met_both (row user_data (body_at at c) ks) (end_at user_data (body_at at c + length (Rattle.container_model.specs.Chunk.spell_all ks)) (udta.opening c).stop ∷ []),
      met_both (row user_data (body_at to c) ks) (end_at user_data (body_at to c + length (Rattle.container_model.specs.Chunk.spell_all ks)) (udta.opening c).stop ∷ []),
      met_row user_data ks (body_at at c),
      met_row user_data ks (body_at to c),
    )
kid_places false at to c = met_walk at c ∙ sym (met_walk to c)

no_user : (seen : Bool) → (not seen && false) ≡ false
no_user true = refl
no_user false = refl

kid_same : (seen : Bool) (at to : ℕ) (c d : Chunk) → SameMet c d → atoms_met (kid_steps (not seen && udta.is c) at c) ≡ atoms_met (kid_steps (not seen && udta.is d) to d)
kid_same seen at to c d (inl e) = kid_places (not seen && udta.is c) at to c ∙ ap (λ (x : Chunk). atoms_met (kid_steps (not seen && udta.is x) to x)) e
kid_same seen at to c d (inr n) =
    ap (λ (t : Bool). atoms_met (kid_steps (not seen && t) at c)) n.0 ∙ ap (λ (t : Bool). atoms_met (kid_steps t at c)) (no_user seen) ∙ met_walk at c ∙ n.2 ∙ sym (met_walk to d)
    ∙ ap (λ (t : Bool). atoms_met (kid_steps t to d)) (sym (no_user seen)) ∙ ap (λ (t : Bool). atoms_met (kid_steps (not seen && t) to d)) (sym n.1)

same_user : (c d : Chunk) → SameMet c d → udta.is c ≡ udta.is d
same_user c d (inl e) = ap (λ (x : Chunk). udta.is x) e
same_user c d (inr n) = n.0 ∙ sym n.1

pub met_beside : (seen : Bool) (at to : ℕ) (cs ds : List Chunk) → Side cs ds → atoms_met (inside_steps seen at cs) ≡ atoms_met (inside_steps seen to ds)
met_beside seen at to [] [] h = refl
met_beside seen at to [] (d ∷ ds) h = absurd h
met_beside seen at to (c ∷ cs) [] h = absurd h
met_beside seen at to (c ∷ cs) (d ∷ ds) h =
    let next = to + length (spell d) in
    let more = met_beside (seen || udta.is c) (at + length (spell c)) next cs ds h.1 in
    let flag = ap (λ (t : Bool). atoms_met (inside_steps (seen || t) next ds)) (same_user c d h.0) in
    omega (
      arith,
      kid_same seen at to c d h.0,
      more,
      flag,
      met_both (kid_steps (not seen && udta.is c) at c) (inside_steps (seen || udta.is c) (at + length (spell c)) cs),
      met_both (kid_steps (not seen && udta.is d) to d) (inside_steps (seen || udta.is d) next ds),
    )

side_same : (cs : List Chunk) → Side cs cs
side_same [] = tt
side_same (c ∷ cs) = (inl refl, side_same cs)

side_both : (a b x y : List Chunk) → Side a b → Side x y → Side (a ++ x) (b ++ y)
side_both [] [] x y h g = g
side_both [] (d ∷ b) x y h g = absurd h
side_both (c ∷ a) [] x y h g = absurd h
side_both (c ∷ a) (d ∷ b) x y h g = (h.0, side_both a b x y h.1 g)

-- what is laid of pieces that are changed in two ways
pub side_laid : (g k : Chunk → Chunk) (f : Fill) (ps : List Piece) → Copied (λ c. SameMet (g c) (k c)) ps → Side (lay f (map (changed_piece g) ps)) (lay f (map (changed_piece k) ps))
side_laid g k f [] h = tt
side_laid g k f (copied c ∷ ps) h = (h.0, side_laid g k f ps h.1)
side_laid g k f (replaced lead slot now last ∷ ps) h =
    let x = map padded lead ++ (now ++ f last slot (length (unit_bytes lead now))) in
    side_both x x (lay f (map (changed_piece g) ps)) (lay f (map (changed_piece k) ps)) (side_same x) (side_laid g k f ps h)
