-- All parts of a supported file, by the parts that its map tells.
use Rattle.std.proofs.Common.{◌≡◌, ◌∙◌, ℕ, ◌+◌, ◌%◌, ◌<◌, ◌≤◌, zero, suc, get_or, Bool, true, false, List, [], ◌∷◌, ◌++◌, length, take, drop, refl, sym, ap, subst, arith, append_assoc, length-append, length-drop, length-take}
use Rattle.std.specs.Prelude.{codes, if◌then◌else◌, ◌&&◌, nat_le}
use Rattle.std.specs.List.{AllByRecursion}
use Rattle.std.proofs.lemmas.Bool.{lt-leb, le-leb}
use Rattle.std.proofs.lemmas.List.{append-nil, drop_all, drop_more}
use Rattle.me_bytes.specs.Bytes.{IsBytes}
use Rattle.part_tree.specs.Parts.{rest_parts}
use Rattle.part_tree.specs.declared.part.Part.{Part}
use Rattle.container_model.specs.Chunk.{Chunk, header_bytes, spell, spell_all}
use Rattle.container_model.specs.Walk.{along}
use Rattle.carrier_model.proofs.RiffForm.{field_len, field_of}
use Rattle.wave_model.specs.Edited.{Supported}
use Rattle.wave_model.specs.Map.{ds64_parts, list_parts, parts_behind, parts_of_file, rests_in}
use Rattle.wave_model.specs.New.{children_at}
use Rattle.wave_model.specs.Wave.{behind_form, form_run, form_size, inner, is_big, sizes_of, wave_of}
use Rattle.wave_model.proofs.Again.{spelled}
use Rattle.wave_model.proofs.Edited.{kind_len}
use Rattle.wave_model.proofs.Form.{behind_body, inner_len, old_fine, old_form, spelled_is}
use Rattle.wave_model.proofs.Map.{body_there, head_len}
use Rattle.wave_model.proofs.Read.{IsRead, most}
use Rattle.wave_model.proofs.Why.{why_supported}
use Rattle.wave_file.specs.Map.{Ascend, IsMapOf, at_front, part_at, role_of, sizes_at}
use Rattle.wave_file.specs.declared.map.WaveMap.{WaveMap}
use Rattle.wave_parts.specs.Opened.{PartEnds, chunks_in, end_after, is_list, opened_part, opened_parts, opens, tail_at}
use Rattle.wave_parts.proofs.Opened.{HomeFrom, all_end, behind_opened, ds64_ends, ds64_opened, each_append, end_along, end_append, opened_append}

-- ---- chunks stand where they are told

home_by : (n : ℕ) (b x : List ℕ) (at : ℕ) (cs : List Chunk) (y : List ℕ) → b ≡ x ++ (spell_all cs ++ y) → length x ≡ at → AllByRecursion (IsRead n) cs → HomeFrom b at cs
home_by n b x at [] y e l h = tt
home_by n b x at (c ∷ cs) y e l h =
    let head = header_bytes c.form c.id (length c.body) in
    let here : b ≡ x ++ (spell c ++ (spell_all cs ++ y)) = e ∙ ap (λ (z : List ℕ). x ++ z) (append_assoc (spell c) (spell_all cs) y) in
    let later : b ≡ (x ++ spell c) ++ (spell_all cs ++ y) = here ∙ sym (append_assoc x (spell c) (spell_all cs ++ y)) in (
      record {
        body = sym (ap (λ (z : List ℕ). take (length c.body) (drop (at + 8) z)) here ∙ body_there at x c (spell_all cs ++ y) l (head_len n c h.0));
        long = omega (arith, head_len n c h.0, length-append head (c.body ++ c.pad));
      },
      home_by n b (x ++ spell c) (at + length (spell c)) cs y later (omega (arith, l, length-append x (spell c))) h.1,
    )

right_half : (P : Chunk → Type 0) (a c : List Chunk) → AllByRecursion P (a ++ c) → AllByRecursion P c
right_half P [] c h = h
right_half P (x ∷ a) c h = right_half P a c h.1

children_home : (b : List ℕ) → IsBytes b → Supported b → HomeFrom b (children_at (wave_of b)) (wave_of b).children
children_home b bytes sup = home_by (most (sizes_of b)) b front (children_at (wave_of b)) (wave_of b).children rest whole len (right_half (IsRead (most (sizes_of b))) (wave_of b).ds64 (wave_of b).children (old_fine b bytes sup))
  where
    kind : List ℕ
    kind = (wave_of b).id ++ (field_of (wave_of b).form (length (inner (wave_of b))) ++ codes "WAVE")

    front : List ℕ
    front = kind ++ spell_all (wave_of b).ds64

    rest : List ℕ
    rest = (wave_of b).left ++ ((wave_of b).pad ++ (wave_of b).tail)

    regroup : (i g w d c l r : List ℕ) → i ++ (g ++ ((w ++ (d ++ (c ++ l))) ++ r)) ≡ ((i ++ (g ++ w)) ++ d) ++ (c ++ (l ++ r))
    regroup i g w d c l r = simp append_assoc

    whole : b ≡ front ++ (spell_all (wave_of b).children ++ rest)
    whole =
        let v = wave_of b in
        spelled_is b bytes sup ∙ spelled v (old_form b bytes sup) ∙ regroup v.id (field_of v.form (length (inner v))) (codes "WAVE") (spell_all v.ds64) (spell_all v.children) v.left (v.pad ++ v.tail)

    len : length front ≡ children_at (wave_of b)
    len =
        let v = wave_of b in
        let k = length (inner v) in
        omega (arith, kind_len (take 4 b) sup.form_id, field_len v.form k, length-append v.id (field_of v.form k ++ codes "WAVE"), length-append (field_of v.form k) (codes "WAVE"), length-append kind (spell_all v.ds64))

-- behind ds64 the chunks begin past 12
begins_first : (b : List ℕ) → (wave_of b).ds64 ≡ [] → children_at (wave_of b) ≡ 12
begins_first b e = let none : length (spell_all (wave_of b).ds64) ≡ 0 = ap (λ (cs : List Chunk). length (spell_all cs)) e in omega arith

begins_later : (b : List ℕ) → IsBytes b → Supported b → (d : Chunk) (ds : List Chunk) → (wave_of b).ds64 ≡ d ∷ ds → 12 < children_at (wave_of b)
begins_later b bytes sup d ds e =
    let v = wave_of b in
    let h : AllByRecursion (IsRead (most (sizes_of b))) ((d ∷ ds) ++ v.children) = subst (λ (xs : List Chunk). AllByRecursion (IsRead (most (sizes_of b))) (xs ++ v.children)) e (old_fine b bytes sup) in
    let head = header_bytes d.form d.id (length d.body) in
    omega (arith, head_len (most (sizes_of b)) d h.0, ap (λ (xs : List Chunk). length (spell_all xs)) e, length-append (spell d) (spell_all ds), length-append head (d.body ++ d.pad))

-- ---- the parts of a map

module _ (b : List ℕ) (m : WaveMap) (bytes : IsBytes b) (is : IsMapOf b m) where
  sup : Supported b
  sup = why_supported b is.supported

  pub map_ends : AllByRecursion (PartEnds b) m.parts.items
  map_ends =
      let v = wave_of b in
      subst (AllByRecursion (PartEnds b)) (sym is.parts)
      (each_append (PartEnds b) (along sizes_at 12 v.ds64) (along part_at (children_at v) v.children) (ds64_ends b (is_big (take 4 b)) (form_run b).chunks) (all_end b (children_at v) v.children (children_home b bytes sup) ((sup.children).each)))

  map_opened : opened_parts b m.parts.items ≡ ds64_parts (wave_of b).ds64 ++ parts_behind (wave_of b).ds64 (children_at (wave_of b)) (wave_of b).children
  map_opened =
      let v = wave_of b in
      ap (opened_parts b) is.parts
      ∙ opened_append b (along sizes_at 12 v.ds64) (along part_at (children_at v) v.children)
      ∙ ap (λ (x : List Part). x ++ opened_parts b (along part_at (children_at v) v.children)) (ds64_opened b (is_big (take 4 b)) (form_run b).chunks)
      ∙ ap (λ (x : List Part). ds64_parts v.ds64 ++ x) (behind_opened b v.ds64 (children_at v) v.children (begins_first b) (begins_later b bytes sup) (children_home b bytes sup))

  map_end : end_after 12 m.parts.items ≡ children_at (wave_of b) + length (spell_all (wave_of b).children)
  map_end =
      let v = wave_of b in
      let first : end_after 12 (along sizes_at 12 v.ds64) ≡ children_at v = end_along (λ p c. Rattle.part_tree.specs.declared.part.Role.TheVariants.Sizes) 12 v.ds64 ∙ omega arith in
      ap (end_after 12) is.parts
      ∙ end_append 12 (along sizes_at 12 v.ds64) (along part_at (children_at v) v.children)
      ∙ ap (λ (n : ℕ). end_after n (along part_at (children_at v) v.children)) first
      ∙ end_along (λ p c. at_front p (role_of c)) (children_at v) v.children

  inner_size : length (inner (wave_of b)) ≡ 4 + (length (spell_all (wave_of b).ds64) + (length (spell_all (wave_of b).children) + length (wave_of b).left))
  inner_size = let v = wave_of b in omega (arith, length-append (spell_all v.ds64) (spell_all v.children ++ v.left), length-append (spell_all v.children) v.left)

  -- where the rest of the form ends
  pub left_ends : (at : ℕ) → at ≡ end_after 12 m.parts.items → at + length (wave_of b).left ≡ m.form_end
  left_ends at e = omega (arith, e, map_end, inner_size, inner_len b bytes sup, is.form_end)

  abbrev tail_from : ℕ
  tail_from = 8 + length (inner (wave_of b)) + length (wave_of b).pad

  -- where the tail begins and ends
  pub tail_begins : tail_from ≡ tail_at m.form_end m.len
  tail_begins =
      let n = form_size b in
      omega (arith, is.form_end, is.len, sup.inside, inner_len b bytes sup, length-take (n % 2) (behind_form b), length-drop n (drop 8 b), length-drop 8 b)

  pub tail_ends : tail_from + length (wave_of b).tail ≡ m.len
  tail_ends =
      let v = wave_of b in
      omega (arith, is.len, sup.inside, length-drop 8 b, ap length (behind_body b bytes sup), length-append (inner v) (v.pad ++ v.tail), length-append v.pad v.tail)

  -- all parts
  pub all_told : (now new : List Part) (at : ℕ) → now ≡ [] ++ opened_parts b m.parts.items → at ≡ end_after 12 m.parts.items → new ≡ now ++ (rest_parts at (wave_of b).left ++ rest_parts tail_from (wave_of b).tail) → new ≡ parts_of_file b
  all_told now new at one place two =
      let v = wave_of b in
      two
      ∙ ap (λ (x : List Part). x ++ (rest_parts at v.left ++ rest_parts tail_from v.tail)) (one ∙ map_opened)
      ∙ ap (λ (q : ℕ). (ds64_parts v.ds64 ++ parts_behind v.ds64 (children_at v) v.children) ++ (rest_parts q v.left ++ rest_parts tail_from v.tail)) (place ∙ map_end)
      ∙ append_assoc (ds64_parts v.ds64) (parts_behind v.ds64 (children_at v) v.children) (rests_in v)

-- ---- parts that ascend

ascend_last : (low end : ℕ) (ps : List Part) → Ascend low ps end → low ≤ end
ascend_last low end [] h = h
ascend_last low end (p ∷ ps) h = omega (arith, h.0, h.1, h.2, ascend_last p.next end ps h.3)

pub bodies_end : (low end : ℕ) (ps : List Part) → Ascend low ps end → AllByRecursion (λ p. p.body.at + p.body.len ≤ end) ps
bodies_end low end [] h = tt
bodies_end low end (p ∷ ps) h = (let one : p.body.at + p.body.len ≤ end = omega (arith, h.2, ascend_last p.next end ps h.3) in one, bodies_end p.next end ps h.3)

pub last_end : (low end : ℕ) (ps : List Part) → Ascend low ps end → end_after low ps ≤ end
last_end low end [] h = h
last_end low end (p ∷ ps) h = last_end p.next end ps h.3

-- ---- one part after the other

pub each_get : (P : Part → Type 0) (ps : List Part) (k : ℕ) (d : Part) → AllByRecursion P ps → k < length ps → P (get_or ps k d)
each_get P [] k d all lt = absurd (omega arith)
each_get P (p ∷ ps) zero d all lt = all.0
each_get P (p ∷ ps) (suc k) d all lt = each_get P ps k d all.1 (omega arith)

pub opened_next : (b : List ℕ) (now new whole ps : List Part) (k : ℕ) (d : Part) → k < length ps → new ≡ now ++ opened_part b (get_or ps k d) → now ++ opened_parts b (drop k ps) ≡ whole → new ++ opened_parts b (drop (k + 1) ps) ≡ whole
opened_next b now new whole ps k d lt n left =
    let p = get_or ps k d in
    let later = opened_parts b (drop (k + 1) ps) in
    ap (λ (x : List Part). x ++ later) n ∙ append_assoc now (opened_part b p) later ∙ ap (λ (x : List Part). now ++ x) (sym (ap (opened_parts b) (drop_more ps k d lt))) ∙ left

pub opened_last : (b : List ℕ) (now whole ps : List Part) (k : ℕ) → length ps ≤ k → now ++ opened_parts b (drop k ps) ≡ whole → now ≡ whole
opened_last b now whole ps k le left = sym (append-nil now) ∙ ap (λ (x : List Part). now ++ x) (sym (ap (opened_parts b) (drop_all k ps le))) ∙ left

pub end_next : (at : ℕ) (ps : List Part) (k : ℕ) (d : Part) (end : ℕ) → k < length ps → end_after at (drop k ps) ≡ end → end_after (get_or ps k d).next (drop (k + 1) ps) ≡ end
end_next at ps k d end lt e = sym (ap (end_after at) (drop_more ps k d lt)) ∙ e

pub end_last : (at : ℕ) (ps : List Part) (k : ℕ) (end : ℕ) → length ps ≤ k → end_after at (drop k ps) ≡ end → at ≡ end
end_last at ps k end le e = sym (ap (end_after at) (drop_all k ps le)) ∙ e

-- a part that isn't opened
pub not_opened : (b : List ℕ) (p : Part) → opens p ≡ false → opened_part b p ≡ p ∷ []
not_opened b p e = ap (λ (t : Bool). p ∷ (if t then list_parts (p.body.at + 4) (chunks_in b p) else [])) e

pub is_opened : (b : List ℕ) (p : Part) → opens p ≡ true → opened_part b p ≡ p ∷ list_parts (p.body.at + 4) (chunks_in b p)
is_opened b p e = ap (λ (t : Bool). p ∷ (if t then list_parts (p.body.at + 4) (chunks_in b p) else [])) e

pub no_list : (p : Part) (t : Bool) → t ≡ is_list p.role → t ≡ false → opens p ≡ false
no_list p t same e = ap (λ (x : Bool). x && nat_le 4 p.body.len) (sym same ∙ e)

pub short_list : (p : Part) → p.body.len < 4 → opens p ≡ false
short_list p lt = ap (λ (x : Bool). is_list p.role && x) (lt-leb 4 p.body.len lt) ∙ and_no (is_list p.role)
  where
    and_no : (a : Bool) → (a && false) ≡ false
    and_no true = refl
    and_no false = refl

pub long_list : (p : Part) (t : Bool) → t ≡ is_list p.role → t ≡ true → 4 ≤ p.body.len → opens p ≡ true
long_list p t same e le = ap (λ (x : Bool). x && nat_le 4 p.body.len) (sym same ∙ e) ∙ le-leb 4 p.body.len le
