-- What a reader tells of a supported file lies in its bytes.
use Rattle.std.proofs.Common.{◌≡◌, ℕ, ◌+◌, Bool, true, false, cond, List, [], ◌∷◌, ◌++◌, length, take, drop, refl, sym, ap, ◌∙◌, append_assoc, arith, inl, inr}
use Rattle.std.specs.Prelude.{◌&&◌, codes}
use Rattle.std.specs.Int.{w32, to_le_bytes}
use Rattle.std.specs.List.{flat_map, AllByRecursion}
use Rattle.std.proofs.lemmas.List.{length-append, take_at, drop_at}
use Rattle.part_tree.specs.Names.{whole_ids}
use Rattle.part_tree.specs.Parts.{rest_parts, count_role, count_parts}
use Rattle.part_tree.specs.declared.part.Part.{Part}
use Rattle.part_tree.specs.declared.part.Role.{Role}
use Rattle.part_tree.specs.declared.part.Role.TheVariants.{Opaque, Padding, Bext, Info, Whole, Essence}
use Rattle.container_model.specs.Chunk.{Form, Chunk, Run, header_bytes, spell, spell_all}
use Rattle.container_model.proofs.Codec.{IsBytes}
use Rattle.carrier_model.specs.Info.{own_size, is_padding, one_of, list_run}
use Rattle.wave_model.specs.Wave.{Wave, wave_of, inner, spell_wave}
use Rattle.wave_model.specs.Fields.{has_id, is_bext, is_info}
use Rattle.wave_model.specs.New.{children_at}
use Rattle.wave_model.specs.Edited.{parts_of, parts, sounds, Supported}
use Rattle.wave_model.specs.Map.{body_span, role_of, first_role, part, item_parts, list_parts, chunk_parts, later_parts, parts_behind, ds64_parts, rests_in, parts_of_file, sound_from, sound}
use Rattle.wave_model.proofs.Read.{most, OfRiff, IsRead}
use Rattle.wave_model.proofs.Again.{spelled}
use Rattle.carrier_model.proofs.RiffForm.{field_of, field_len}
use Rattle.wave_model.proofs.Form.{old_form, spelled_is, old_fine, has_ds64}
use Rattle.wave_model.proofs.Edited.{kind_len}
use Rattle.wave_model.proofs.Ds64.{HasDs64}

-- ---- as many parts as are counted

count_append : (a b : List Part) → count_parts (a ++ b) ≡ count_parts a + count_parts b
count_append [] b = omega arith
count_append (p ∷ a) b = omega (arith, count_append a b)

no_rest : (at : ℕ) (b : List ℕ) → count_parts (rest_parts at b) ≡ 0
no_rest at [] = refl
no_rest at (x ∷ b) = refl

items_count : (at : ℕ) (cs : List Chunk) → count_parts (item_parts at cs) ≡ length cs
items_count at [] = refl
items_count at (c ∷ cs) = omega (arith, items_count (at + length (spell c)) cs)

-- a chunk of the form counts
role_counts : (c : Chunk) → count_role (role_of c) ≡ 1
role_counts c = go (is_padding c) (is_bext c) (is_info c) (own_size c.form && one_of whole_ids c.id) (has_id (codes "data") c)
  where
    go : (t u v x y : Bool) → count_role (cond t Padding (cond u Bext (cond v Info (cond x Whole (cond y Essence Opaque))))) ≡ 1
    go true u v x y = refl
    go false true v x y = refl
    go false false true x y = refl
    go false false false true y = refl
    go false false false false true = refl
    go false false false false false = refl

first_counts : (c : Chunk) → count_role (first_role c) ≡ 1
first_counts c = go (is_padding c)
  where
    go : (t : Bool) → count_role (cond t Opaque (role_of c)) ≡ 1
    go true = refl
    go false = role_counts c

chunk_count : (role : Role) (at : ℕ) (c : Chunk) → count_role role ≡ 1 → count_parts (chunk_parts role at c) ≡ length (parts_of c)
chunk_count role at c one = go (is_info c)
  where
    r : Run
    r = list_run c

    go : (t : Bool) → count_parts (part role at c ∷ cond t (list_parts (at + 12) r) []) ≡ length (cond t (c ∷ r.chunks) (c ∷ []))
    go true = omega (arith, one, items_count (at + 12) r.chunks, no_rest (at + 12 + length (spell_all r.chunks)) r.left, count_append (item_parts (at + 12) r.chunks) (rest_parts (at + 12 + length (spell_all r.chunks)) r.left))
    go false = omega (arith, one)

later_count : (at : ℕ) (cs : List Chunk) → count_parts (later_parts at cs) ≡ length (flat_map parts_of cs)
later_count at [] = refl
later_count at (c ∷ cs) =
    omega (arith, chunk_count (role_of c) at c (role_counts c), later_count (at + length (spell c)) cs, count_append (chunk_parts (role_of c) at c) (later_parts (at + length (spell c)) cs), length-append (parts_of c) (flat_map parts_of cs))

behind_count : (ds : List Chunk) (at : ℕ) (cs : List Chunk) → count_parts (parts_behind ds at cs) ≡ length (flat_map parts_of cs)
behind_count [] at [] = refl
behind_count [] at (c ∷ cs) =
    omega (arith, chunk_count (first_role c) at c (first_counts c), later_count (at + length (spell c)) cs, count_append (chunk_parts (first_role c) at c) (later_parts (at + length (spell c)) cs), length-append (parts_of c) (flat_map parts_of cs))
behind_count (d ∷ ds) at cs = later_count at cs

pub parts_counted : (o : List ℕ) → IsBytes o → Supported o → count_parts (parts_of_file o) ≡ parts (wave_of o)
parts_counted o bytes sup =
    let w = wave_of o in
    let at = children_at w + length (spell_all w.children) in
    let behind = 8 + length (inner w) + length w.pad in
    omega (
      arith,
      behind_count w.ds64 (children_at w) w.children,
      one (Rattle.wave_model.specs.Wave.is_big (take 4 o)) (has_ds64 o bytes sup),
      count_append (ds64_parts w.ds64) (parts_behind w.ds64 (children_at w) w.children ++ rests_in w),
      count_append (parts_behind w.ds64 (children_at w) w.children) (rests_in w),
      count_append (rest_parts at w.left) (rest_parts behind w.tail),
      no_rest at w.left,
      no_rest behind w.tail,
    )
  where
    one : (t : Bool) → HasDs64 t (wave_of o).ds64 → count_parts (ds64_parts (wave_of o).ds64) ≡ length (wave_of o).ds64
    one false h = ap (λ (ds : List Chunk). count_parts (ds64_parts ds)) h ∙ sym (ap length h)
    one true h = ap (λ (ds : List Chunk). count_parts (ds64_parts ds)) h.1 ∙ sym (ap length h.1)

-- ---- the sound lies where it is told

pub head_len : (n : ℕ) (c : Chunk) → IsRead n c → length (header_bytes c.form c.id (length c.body)) ≡ 8
head_len n c r = go r.form_is
  where
    go : OfRiff c.form → length (header_bytes c.form c.id (length c.body)) ≡ 8
    go (inl e) = ap (λ (f : Form). length (header_bytes f c.id (length c.body))) e ∙ omega (arith, r.id_len, length-append c.id (to_le_bytes w32 (length c.body)))
    go (inr e) = ap (λ (f : Form). length (header_bytes f c.id (length c.body))) e ∙ omega (arith, r.id_len, length-append c.id (255 ∷ 255 ∷ 255 ∷ 255 ∷ []))

-- a header of eight bytes
abbrev pub Eight : Chunk → Type 0
Eight c = length (header_bytes c.form c.id (length c.body)) ≡ 8

-- a body in bytes before which so many others stand
pub body_there : (at : ℕ) (x : List ℕ) (c : Chunk) (y : List ℕ) → length x ≡ at → Eight c → take (length c.body) (drop (at + 8) (x ++ (spell c ++ y))) ≡ c.body
body_there at x c y e r =
    let h = header_bytes c.form c.id (length c.body) in
    let split : x ++ (spell c ++ y) ≡ (x ++ h) ++ (c.body ++ (c.pad ++ y)) = simp append_assoc in
    let front : length (x ++ h) ≡ at + 8 = omega (arith, e, r, length-append x h) in
    ap (λ (z : List ℕ). take (length c.body) (drop (at + 8) z)) split ∙ ap (take (length c.body)) (drop_at (x ++ h) (c.body ++ (c.pad ++ y)) (at + 8) front) ∙ take_at c.body (c.pad ++ y) (length c.body) refl

sound_there : (n at : ℕ) (x : List ℕ) (cs : List Chunk) (y : List ℕ) → length x ≡ at → AllByRecursion (IsRead n) cs → (d : List ℕ) → sounds cs ≡ d ∷ []
    → take (sound_from at cs).len (drop (sound_from at cs).at (x ++ (spell_all cs ++ y))) ≡ d
sound_there n at x [] y e r d s = absurd cc
sound_there n at x (c ∷ cs) y e r d s = go (has_id (codes "data") c) refl (sound_there n (at + length (spell c)) (x ++ spell c) cs y (omega (arith, e, length-append x (spell c))) r.1 d)
  where
    go : (t : Bool) → has_id (codes "data") c ≡ t
        → (sounds cs ≡ d ∷ [] → take (sound_from (at + length (spell c)) cs).len (drop (sound_from (at + length (spell c)) cs).at ((x ++ spell c) ++ (spell_all cs ++ y))) ≡ d)
        → take (cond t (body_span at c) (sound_from (at + length (spell c)) cs)).len (drop (cond t (body_span at c) (sound_from (at + length (spell c)) cs)).at (x ++ ((spell c ++ spell_all cs) ++ y))) ≡ d
    go true i again =
        let here : c.body ∷ sounds cs ≡ d ∷ [] = sym (ap (λ (t : Bool). cond t (c.body ∷ []) [] ++ sounds cs) i) ∙ s in
        ap (λ (z : List ℕ). take (length c.body) (drop (at + 8) (x ++ z))) (append_assoc (spell c) (spell_all cs) y) ∙ body_there at x c (spell_all cs ++ y) e (head_len n c r.0) ∙ Rattle.wave_model.proofs.Edited.first_one c.body (sounds cs) d here
    go false i again =
        let rest : sounds cs ≡ d ∷ [] = sym (ap (λ (t : Bool). cond t (c.body ∷ []) [] ++ sounds cs) i) ∙ s in
        ap (λ (z : List ℕ). take (sound_from (at + length (spell c)) cs).len (drop (sound_from (at + length (spell c)) cs).at z)) (regroup x (spell c) (spell_all cs) y) ∙ again rest
      where
        regroup : (a b c d : List ℕ) → a ++ ((b ++ c) ++ d) ≡ (a ++ b) ++ (c ++ d)
        regroup a b c d = simp append_assoc

-- The sound that is told is the body of `data`.
pub sound_is : (o : List ℕ) → IsBytes o → Supported o → sounds (wave_of o).children ≡ take (sound o).len (drop (sound o).at o) ∷ []
sound_is o bytes sup = go (sounds (wave_of o).children) refl sup.children.one_sound
  where
    front : List ℕ
    front = (wave_of o).id ++ (field_of (wave_of o).form (length (inner (wave_of o))) ++ (codes "WAVE" ++ spell_all (wave_of o).ds64))

    rest : List ℕ
    rest = (wave_of o).left ++ ((wave_of o).pad ++ (wave_of o).tail)

    regroup : (i g d c l r : List ℕ) → i ++ (g ++ ((codes "WAVE" ++ (d ++ (c ++ l))) ++ r)) ≡ (i ++ (g ++ (codes "WAVE" ++ d))) ++ (c ++ (l ++ r))
    regroup i g d c l r = simp append_assoc

    behind : (a : List Chunk) → AllByRecursion (IsRead (most (Rattle.wave_model.specs.Wave.sizes_of o))) (a ++ (wave_of o).children) → AllByRecursion (IsRead (most (Rattle.wave_model.specs.Wave.sizes_of o))) (wave_of o).children
    behind [] h = h
    behind (c ∷ a) h = behind a h.1

    go : (ds : List (List ℕ)) → sounds (wave_of o).children ≡ ds → length (sounds (wave_of o).children) ≡ 1 → sounds (wave_of o).children ≡ take (sound o).len (drop (sound o).at o) ∷ []
    go [] e l = absurd (omega (arith, ap length e))
    go (d ∷ []) e l =
        let v = wave_of o in
        let k = length (inner v) in
        let whole : o ≡ front ++ (spell_all v.children ++ rest) = spelled_is o bytes sup ∙ spelled v (old_form o bytes sup) ∙ regroup v.id (field_of v.form k) (spell_all v.ds64) (spell_all v.children) v.left (v.pad ++ v.tail) in
        let len : length front ≡ children_at v = omega (arith, kind_len (take 4 o) sup.form_id, field_len v.form k, length-append v.id (field_of v.form k ++ (codes "WAVE" ++ spell_all v.ds64)), length-append (field_of v.form k) (codes "WAVE" ++ spell_all v.ds64), length-append (codes "WAVE") (spell_all v.ds64)) in
        let there = sound_there (most (Rattle.wave_model.specs.Wave.sizes_of o)) (children_at v) front v.children rest len (behind v.ds64 (old_fine o bytes sup)) d e in
        e ∙ ap (λ (z : List ℕ). z ∷ []) (sym (ap (λ (z : List ℕ). take (sound o).len (drop (sound o).at z)) whole ∙ there))
    go (d ∷ (c ∷ ds)) e l = absurd (omega (arith, ap length e))
