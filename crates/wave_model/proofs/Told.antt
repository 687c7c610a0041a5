-- Each part that is told of a supported file lies where it is told.
use Rattle.std.proofs.Common.{◌≡◌, ℕ, ◌+◌, Bool, true, false, cond, List, [], ◌∷◌, ◌++◌, length, map, take, drop, refl, sym, ap, subst, ◌∙◌, append_assoc, arith}
use Rattle.std.specs.Prelude.{codes}
use Rattle.std.specs.Int.{w32, to_le_bytes}
use Rattle.std.specs.Str.{bytes_eq}
use Rattle.std.specs.List.{flat_map, AllByRecursion}
use Rattle.std.proofs.lemmas.Bool.{and_parts}
use Rattle.std.proofs.lemmas.List.{length-append, append-nil, map-append, take-append-drop, take_at, drop_at}
use Rattle.part_tree.specs.declared.part.Role.{Role}
use Rattle.part_tree.specs.declared.part.Role.TheVariants.{Opaque, Sizes}
use Rattle.container_model.specs.Chunk.{Form, Chunk, header_bytes, spell, spell_all}
use Rattle.container_model.specs.Sizes.{plain}
use Rattle.container_model.proofs.Codec.{IsBytes, IsBytes-drop, chunks_joined}
use Rattle.container_model.proofs.Fronts.{IsBytes-take, riff_gives_back}
use Rattle.container_model.proofs.Items.{same_true}
use Rattle.container_model.proofs.Plain.{ArePlain, plain_chunks}
use Rattle.carrier_model.specs.Info.{own_size, list_run}
use Rattle.wave_model.specs.Wave.{is_big, sizes_of, wave_of, inner}
use Rattle.wave_model.specs.Fields.{is_info}
use Rattle.wave_model.specs.New.{children_at}
use Rattle.wave_model.specs.Edited.{Supported}
use Rattle.wave_model.specs.Map.{role_of, first_role, part, item_parts, list_parts, chunk_parts, later_parts, parts_behind, ds64_parts, rests_in, parts_of_file, rest_bodies, bodies_of, bodies_in, told_body}
use Rattle.part_tree.specs.Parts.{rest_parts}
use Rattle.wave_model.proofs.Read.{most, IsRead}
use Rattle.wave_model.proofs.Again.{spelled}
use Rattle.carrier_model.proofs.RiffForm.{field_of, field_len}
use Rattle.wave_model.proofs.Form.{old_form, spelled_is, old_fine, has_ds64}
use Rattle.wave_model.proofs.Edited.{kind_len}
use Rattle.wave_model.proofs.Ds64.{HasDs64}
use Rattle.wave_model.proofs.Map.{Eight, head_len, body_there}

-- the bodies of chunks
abbrev all_bodies : List Chunk → List (List ℕ)
all_bodies cs = map (λ c. c.body) cs

plain_eight : (cs : List Chunk) → ArePlain cs → AllByRecursion Eight cs
plain_eight [] h = tt
plain_eight (c ∷ cs) h = (ap (λ (f : Form). length (header_bytes f c.id (length c.body))) h.0.form_is ∙ omega (arith, h.0.id_len, length-append c.id (to_le_bytes w32 (length c.body))), plain_eight cs h.1)

regroup : (a b c d : List ℕ) → a ++ ((b ++ c) ++ d) ≡ (a ++ b) ++ (c ++ d)
regroup a b c d = simp append_assoc

module _ (o : List ℕ) (bytes : IsBytes o) where
  -- the body of a chunk that stands at a place
  body_told : (role : Role) (at : ℕ) (x : List ℕ) (c : Chunk) (y : List ℕ) → o ≡ x ++ (spell c ++ y) → length x ≡ at → Eight c → told_body o (part role at c) ≡ c.body
  body_told role at x c y e l h = ap (λ (z : List ℕ). take (length c.body) (drop (at + 8) z)) e ∙ body_there at x c y l h

  items_told : (at : ℕ) (x : List ℕ) (cs : List Chunk) (y : List ℕ) → o ≡ x ++ (spell_all cs ++ y) → length x ≡ at → AllByRecursion Eight cs → map (told_body o) (item_parts at cs) ≡ all_bodies cs
  items_told at x [] y e l h = refl
  items_told at x (c ∷ cs) y e l h =
      rw (body_told Opaque at x c (spell_all cs ++ y) (e ∙ ap (λ (z : List ℕ). x ++ z) (append_assoc (spell c) (spell_all cs) y)) l h.0)
      (ap (λ (z : List (List ℕ)). c.body ∷ z) (items_told (at + length (spell c)) (x ++ spell c) cs y (e ∙ regroup x (spell c) (spell_all cs) y) (omega (arith, l, length-append x (spell c))) h.1))

  -- a rest that stands at a place
  rest_told : (at : ℕ) (x r y : List ℕ) → o ≡ x ++ (r ++ y) → length x ≡ at → map (told_body o) (rest_parts at r) ≡ rest_bodies r
  rest_told at x [] y e l = refl
  rest_told at x (z ∷ r) y e l =
      let here : take (length (z ∷ r)) (drop at o) ≡ z ∷ r = ap (λ (b : List ℕ). take (length (z ∷ r)) (drop at b)) e ∙ ap (take (length (z ∷ r))) (drop_at x ((z ∷ r) ++ y) at l) ∙ take_at (z ∷ r) y (length (z ∷ r)) refl in
      ap (λ (b : List ℕ). b ∷ []) here

  chunk_told : (role : Role) (at : ℕ) (x : List ℕ) (c : Chunk) (y : List ℕ) → o ≡ x ++ (spell c ++ y) → length x ≡ at → Eight c → map (told_body o) (chunk_parts role at c) ≡ bodies_of c
  chunk_told role at x c y e l h = go (is_info c) refl
    where
      here : told_body o (part role at c) ≡ c.body
      here = body_told role at x c y e l h

      body_bytes : IsBytes (drop 4 c.body)
      body_bytes = IsBytes-drop 4 c.body (subst IsBytes here (IsBytes-take (length c.body) (drop (at + 8) o) (IsBytes-drop (at + 8) o bytes)))

      split : (x h t i f p y : List ℕ) → x ++ ((h ++ ((t ++ (i ++ f)) ++ p)) ++ y) ≡ (x ++ (h ++ t)) ++ (i ++ (f ++ (p ++ y)))
      split x h t i f p y = simp append_assoc

      within : is_info c ≡ true → map (told_body o) (list_parts (at + 12) (list_run c)) ≡ all_bodies (list_run c).chunks ++ rest_bodies (list_run c).left
      within t =
          let head = header_bytes c.form c.id (length c.body) in
          let r = list_run c in
          let type : take 4 c.body ≡ codes "INFO" = same_true (take 4 c.body) (codes "INFO") (and_parts (bytes_eq c.id (codes "LIST")) (bytes_eq (take 4 c.body) (codes "INFO")) (and_parts (own_size c.form) _ t).1).1 in
          let inside : c.body ≡ take 4 c.body ++ (spell_all r.chunks ++ r.left) = sym (take-append-drop 4 c.body) ∙ ap (λ (z : List ℕ). take 4 c.body ++ z) (sym (chunks_joined Rattle.container_model.specs.Sizes.riff_front riff_gives_back plain (drop 4 c.body) body_bytes)) in
          let whole : o ≡ (x ++ (head ++ take 4 c.body)) ++ (spell_all r.chunks ++ (r.left ++ (c.pad ++ y)))
          = e ∙ ap (λ (z : List ℕ). x ++ ((head ++ (z ++ c.pad)) ++ y)) inside ∙ split x head (take 4 c.body) (spell_all r.chunks) r.left c.pad y in
          let front = x ++ (head ++ take 4 c.body) in
          let twelve : length front ≡ at + 12 = omega (arith, l, h, ap length type, length-append x (head ++ take 4 c.body), length-append head (take 4 c.body)) in
          let more : o ≡ (front ++ spell_all r.chunks) ++ (r.left ++ (c.pad ++ y)) = whole ∙ sym (append_assoc front (spell_all r.chunks) (r.left ++ (c.pad ++ y))) in
          map-append (told_body o) (item_parts (at + 12) r.chunks) (rest_parts (at + 12 + length (spell_all r.chunks)) r.left)
          ∙ ap (λ (z : List (List ℕ)). z ++ map (told_body o) (rest_parts (at + 12 + length (spell_all r.chunks)) r.left)) (items_told (at + 12) front r.chunks (r.left ++ (c.pad ++ y)) whole twelve (plain_eight r.chunks (plain_chunks (drop 4 c.body))))
          ∙ ap (λ (z : List (List ℕ)). all_bodies r.chunks ++ z) (rest_told (at + 12 + length (spell_all r.chunks)) (front ++ spell_all r.chunks) r.left (c.pad ++ y) more (omega (arith, twelve, length-append front (spell_all r.chunks))))

      go : (t : Bool) → is_info c ≡ t → map (told_body o) (part role at c ∷ cond t (list_parts (at + 12) (list_run c)) []) ≡ c.body ∷ cond t (all_bodies (list_run c).chunks ++ rest_bodies (list_run c).left) []
      go true t = rw here (ap (λ (z : List (List ℕ)). c.body ∷ z) (within t))
      go false t = rw here refl

  -- a chunk, and those behind it
  first_told : (role : Role) (at : ℕ) (x : List ℕ) (c : Chunk) (cs : List Chunk) (y : List ℕ) → o ≡ x ++ (spell_all (c ∷ cs) ++ y) → length x ≡ at → AllByRecursion Eight (c ∷ cs)
      → map (told_body o) (later_parts (at + length (spell c)) cs) ≡ flat_map bodies_of cs → map (told_body o) (chunk_parts role at c ++ later_parts (at + length (spell c)) cs) ≡ flat_map bodies_of (c ∷ cs)
  first_told role at x c cs y e l h again =
      map-append (told_body o) (chunk_parts role at c) (later_parts (at + length (spell c)) cs)
      ∙ ap (λ (z : List (List ℕ)). z ++ map (told_body o) (later_parts (at + length (spell c)) cs)) (chunk_told role at x c (spell_all cs ++ y) (e ∙ ap (λ (z : List ℕ). x ++ z) (append_assoc (spell c) (spell_all cs) y)) l h.0)
      ∙ ap (λ (z : List (List ℕ)). bodies_of c ++ z) again

  later_told : (at : ℕ) (x : List ℕ) (cs : List Chunk) (y : List ℕ) → o ≡ x ++ (spell_all cs ++ y) → length x ≡ at → AllByRecursion Eight cs → map (told_body o) (later_parts at cs) ≡ flat_map bodies_of cs
  later_told at x [] y e l h = refl
  later_told at x (c ∷ cs) y e l h =
      first_told (role_of c) at x c cs y e l h (later_told (at + length (spell c)) (x ++ spell c) cs y (e ∙ regroup x (spell c) (spell_all cs) y) (omega (arith, l, length-append x (spell c))) h.1)

  behind_told : (ds : List Chunk) (at : ℕ) (x : List ℕ) (cs : List Chunk) (y : List ℕ) → o ≡ x ++ (spell_all cs ++ y) → length x ≡ at → AllByRecursion Eight cs → map (told_body o) (parts_behind ds at cs) ≡ flat_map bodies_of cs
  behind_told [] at x [] y e l h = refl
  behind_told [] at x (c ∷ cs) y e l h =
      first_told (first_role c) at x c cs y e l h (later_told (at + length (spell c)) (x ++ spell c) cs y (e ∙ regroup x (spell c) (spell_all cs) y) (omega (arith, l, length-append x (spell c))) h.1)
  behind_told (d ∷ ds) at x cs y e l h = later_told at x cs y e l h

-- The bodies that are told are those of the chunks and the rests, in order.
pub bodies_told : (o : List ℕ) → IsBytes o → Supported o → map (told_body o) (parts_of_file o) ≡ bodies_in (wave_of o)
bodies_told o bytes sup =
    let v = wave_of o in
    map-append (told_body o) (ds64_parts v.ds64) (parts_behind v.ds64 (children_at v) v.children ++ rests_in v)
    ∙ ap (λ (z : List (List ℕ)). z ++ map (told_body o) (parts_behind v.ds64 (children_at v) v.children ++ rests_in v)) (ds64_told (is_big (take 4 o)) (has_ds64 o bytes sup))
    ∙ ap (λ (z : List (List ℕ)). all_bodies v.ds64 ++ z) (map-append (told_body o) (parts_behind v.ds64 (children_at v) v.children) (rests_in v)
    ∙ ap (λ (z : List (List ℕ)). z ++ map (told_body o) (rests_in v)) (behind_told o bytes v.ds64 (children_at v) front v.children rest whole len (parts_eight v.ds64 v.children fine).1)
    ∙ ap (λ (z : List (List ℕ)). flat_map bodies_of v.children ++ z) rests_told)
  where
    kind : List ℕ
    kind = (wave_of o).id ++ (field_of (wave_of o).form (length (inner (wave_of o))) ++ codes "WAVE")

    front : List ℕ
    front = kind ++ spell_all (wave_of o).ds64

    rest : List ℕ
    rest = (wave_of o).left ++ ((wave_of o).pad ++ (wave_of o).tail)

    regroup_form : (i g w d c l r : List ℕ) → i ++ (g ++ ((w ++ (d ++ (c ++ l))) ++ r)) ≡ ((i ++ (g ++ w)) ++ d) ++ (c ++ (l ++ r))
    regroup_form i g w d c l r = simp append_assoc

    whole : o ≡ front ++ (spell_all (wave_of o).children ++ rest)
    whole =
        let v = wave_of o in
        spelled_is o bytes sup ∙ spelled v (old_form o bytes sup) ∙ regroup_form v.id (field_of v.form (length (inner v))) (codes "WAVE") (spell_all v.ds64) (spell_all v.children) v.left (v.pad ++ v.tail)

    twelve : length kind ≡ 12
    twelve =
        let v = wave_of o in
        let k = length (inner v) in
        omega (arith, kind_len (take 4 o) sup.form_id, field_len v.form k, length-append v.id (field_of v.form k ++ codes "WAVE"), length-append (field_of v.form k) (codes "WAVE"))

    len : length front ≡ children_at (wave_of o)
    len = omega (arith, twelve, length-append kind (spell_all (wave_of o).ds64))

    rests_told : map (told_body o) (rests_in (wave_of o)) ≡ rest_bodies (wave_of o).left ++ rest_bodies (wave_of o).tail
    rests_told =
        let v = wave_of o in
        let at = children_at v + length (spell_all v.children) in
        let end = 8 + length (inner v) + length v.pad in
        let x = front ++ spell_all v.children in
        let there : o ≡ x ++ (v.left ++ (v.pad ++ v.tail)) = whole ∙ sym (append_assoc front (spell_all v.children) rest) in
        let at_is : length x ≡ at = omega (arith, len, length-append front (spell_all v.children)) in
        let y = x ++ (v.left ++ v.pad) in
        let behind : o ≡ y ++ (v.tail ++ []) = there ∙ last x v.left v.pad v.tail in
        let size : length (inner v) ≡ 4 + (length (spell_all v.ds64) + (length (spell_all v.children) + length v.left)) = omega (arith, length-append (spell_all v.ds64) (spell_all v.children ++ v.left), length-append (spell_all v.children) v.left) in
        let end_is : length y ≡ end = omega (arith, at_is, size, length-append x (v.left ++ v.pad), length-append v.left v.pad) in
        map-append (told_body o) (rest_parts at v.left) (rest_parts end v.tail)
        ∙ ap (λ (z : List (List ℕ)). z ++ map (told_body o) (rest_parts end v.tail)) (rest_told o bytes at x v.left (v.pad ++ v.tail) there at_is)
        ∙ ap (λ (z : List (List ℕ)). rest_bodies v.left ++ z) (rest_told o bytes end y v.tail [] behind end_is)
      where
        last : (x l p t : List ℕ) → x ++ (l ++ (p ++ t)) ≡ (x ++ (l ++ p)) ++ (t ++ [])
        last x l p t = ap (λ (z : List ℕ). x ++ (l ++ (p ++ z))) (sym (append-nil t)) ∙ (simp append_assoc)

    fine : AllByRecursion (IsRead (most (sizes_of o))) ((wave_of o).ds64 ++ (wave_of o).children)
    fine = old_fine o bytes sup

    parts_eight : (a b : List Chunk) → AllByRecursion (IsRead (most (sizes_of o))) (a ++ b) → AllByRecursion Eight a × AllByRecursion Eight b
    parts_eight [] [] h = (tt, tt)
    parts_eight [] (c ∷ b) h = (tt, (head_len (most (sizes_of o)) c h.0, (parts_eight [] b h.1).1))
    parts_eight (c ∷ a) b h = let g = parts_eight a b h.1 in ((head_len (most (sizes_of o)) c h.0, g.0), g.1)

    ds64_told : (t : Bool) → HasDs64 t (wave_of o).ds64 → map (told_body o) (ds64_parts (wave_of o).ds64) ≡ all_bodies (wave_of o).ds64
    ds64_told false h = ap (λ (ds : List Chunk). map (told_body o) (ds64_parts ds)) h ∙ sym (ap all_bodies h)
    ds64_told true h =
        let d = h.0 in
        let v = wave_of o in
        let place : o ≡ kind ++ (spell d ++ (spell_all v.children ++ rest)) = whole ∙ ap (λ (ds : List Chunk). (kind ++ spell_all ds) ++ (spell_all v.children ++ rest)) h.1 ∙ one kind (spell d) (spell_all v.children ++ rest) in
        let eight : AllByRecursion Eight (d ∷ []) = subst (AllByRecursion Eight) h.1 (parts_eight v.ds64 v.children fine).0 in
        ap (λ (ds : List Chunk). map (told_body o) (ds64_parts ds)) h.1 ∙ ap (λ (z : List ℕ). z ∷ []) (body_told o bytes Sizes 12 kind d (spell_all v.children ++ rest) place twelve eight.0) ∙ sym (ap all_bodies h.1)
      where
        one : (a b c : List ℕ) → (a ++ (b ++ [])) ++ c ≡ a ++ (b ++ c)
        one a b c = ap (λ (z : List ℕ). (a ++ z) ++ c) (append-nil b) ∙ append_assoc a b c
