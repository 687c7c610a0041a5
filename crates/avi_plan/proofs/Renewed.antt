-- What changes of tables is the body of each with its numbers moved.
use Rattle.std.proofs.Common.{◌≡◌, ◌∙◌, ℕ, zero, suc, ◌+◌, ◌-◌, ◌*◌, ◌≤◌, Bool, true, false, List, [], ◌∷◌, ◌++◌, length, map, take, drop, Option, Some, None, refl, sym, ap, subst, arith, append_assoc, cond, length-drop}
use Rattle.std.specs.Int.{w64, to_le_bytes}
use Rattle.std.specs.List.{AllByRecursion, flat_map}
use Rattle.std.specs.Str.{bytes_eq}
use Rattle.std.specs.Prelude.{◌||◌}
use Rattle.std.proofs.Math.Nat.{mul-div-le}
use Rattle.std.proofs.lemmas.Bool.{leb-true}
use Rattle.std.proofs.lemmas.List.{drop-drop, drop-take, map-append, take-append-drop, take-take, length-take-le}
use Rattle.part_tree.specs.Moves.{Move}
use Rattle.part_tree.specs.Tables.{RowsNamed, misfit, moved, moved_row, relocated, width}
use Rattle.part_tree.specs.declared.table.Base.TheVariants.{FileStart}
use Rattle.part_tree.specs.declared.table.TableForm.{TableForm}
use Rattle.part_tree.specs.declared.table.TableForm.TheVariants as form
use Rattle.container_model.specs.Splice.{Ascend, Cut}
use Rattle.container_model.specs.Tables.{Table, put64}
use Rattle.container_model.specs.Written.{map_rows, rows, slice}
use Rattle.avi_index.specs.Rows.{Base, count16, from_movi, from_start, old_row}
use Rattle.opendml_index.specs.Heads.{one_field_kind, two_field_kind}
use Rattle.opendml_index.specs.Index.{How, entries, entry_row, first_counted, index_base, index_by, is_super, move, standard_by, super_row, used, width as row_width}
use Rattle.opendml_index.specs.Kinds.{is_standard_kind, kind}
use Rattle.opendml_index.specs.declared.head.IndexKind.TheVariants as known
use Rattle.opendml_index.proofs.Front.{width_is}
use Rattle.opendml_index.proofs.Known.{standard_index, super_index, super_kind}
use Rattle.avi_model.proofs.Relocated.{entries_relocated, olds_relocated, put_64, supers_relocated}
use Rattle.avi_plan.specs.Changes.{IsNamed, change_cut}
use Rattle.avi_plan.specs.Heads.{head_in}
use Rattle.avi_plan.specs.Renewed.{new_body, table_cut}
use Rattle.avi_plan.specs.Tables.{IsTabled, Tabled, changes_of, index, index_changes, old, old_changes, standard_changes, table_of}
use Rattle.avi_plan.specs.declared.table.Change.{Change}
use Rattle.avi_plan.proofs.Indexed.{or_false, rows_stand}
use Rattle.avi_plan.proofs.Refined.{Behind, cut_more, left, piece, refine_none, refine_one, refine_two}

-- ---- rows that stay

same_rows : (k : ℕ) (g : List ℕ → List ℕ) → ((r : List ℕ) → g r ≡ r) → (n : ℕ) (b : List ℕ) → map_rows k g n b ≡ b
same_rows k g h zero b = refl
same_rows k g h (suc n) b = ap (λ (x : List ℕ). x ++ map_rows k g n (drop k b)) (h (take k b)) ∙ ap (λ (x : List ℕ). take k b ++ x) (same_rows k g h n (drop k b)) ∙ take-append-drop k b

pub wide_form : (body : List ℕ) (base : ℕ) → is_standard_kind body ≡ true → row_width body ≡ width (form.Standard (head_in body) base)
wide_form body base s = go (bytes_eq (kind body) two_field_kind) refl s
  where
    go : (t : Bool) → bytes_eq (kind body) two_field_kind ≡ t → (bytes_eq (kind body) one_field_kind || t) ≡ true → row_width body ≡ cond t 12 8
    go true e s = width_is body known.TwoFields e
    go false e s = width_is body known.Standard (or_false (bytes_eq (kind body) one_field_kind) s)

-- ---- a body that stands in a file

module _ (b : List ℕ) (at : ℕ) (body : List ℕ) (stands : slice b at (length body) ≡ body) where
  whole : body ≡ piece b at (at + length body)
  whole = sym stands ∙ ap (λ (n : ℕ). take n (drop at b)) (omega arith)

  -- its front, and what is behind that
  front : (i : ℕ) → i ≤ length body → take i body ≡ piece b at (at + i)
  front i le =
      ap (take i) (sym stands) ∙ take-take i (length body) (drop at b) le ∙ ap (λ (n : ℕ). take n (drop at b)) (omega arith)

  back : (i : ℕ) → i ≤ length body → drop i body ≡ piece b (at + i) (at + length body)
  back i le =
      let all : i + (length body - i) ≡ length body = omega (arith, le) in
      let far : drop i (drop at b) ≡ drop (at + i) b = drop-drop i at b ∙ ap (λ (k : ℕ). drop k b) (omega arith) in
      ap (drop i) (sym stands) ∙ ap (λ (k : ℕ). drop i (take k (drop at b))) (sym all) ∙ drop-take i (length body - i) (drop at b)
      ∙ ap (take (length body - i)) far ∙ ap (λ (n : ℕ). take n (drop (at + i) b)) (omega (arith, le))

  -- rows of it
  rows_of : (f : TableForm) (n i : ℕ) → rows (width f) n (drop (at + i) b) ≡ rows (width f) n (drop i body) → (ms : List Move) → relocated ms f n (drop (at + i) b) ≡ relocated ms f n (drop i body)
  rows_of f n i e ms = ap (flat_map (moved_row ms f)) e

-- rows of a table in a file, and in its body
named_of : (ms : List Move) (f : TableForm) (n : ℕ) (x y : List ℕ) → rows (width f) n x ≡ rows (width f) n y → RowsNamed ms f n x → RowsNamed ms f n y
named_of ms f n x y e h = subst (λ (rs : List (List ℕ)). AllByRecursion (λ row. misfit ms f row ≡ None) rs) e h

-- ---- a table

module _ (ms : List Move) (b : List ℕ) (base : Base) where
  abbrev h : How
  h = move (moved ms)

  old_is : (t : Table) (p : ℕ) (rest : List Cut) → IsTabled b (old t) → p ≤ t.at → Behind (t.at + length t.body) rest → (base : Base) → AllByRecursion (IsNamed ms b) (old_changes base t)
      → left b p (map (change_cut ms b) (old_changes base t) ++ rest) ≡ left b p (table_cut h base (old t) ∷ rest)
  old_is t p rest stands le behind from_movi named =
      refine_none b p (table_cut h from_movi (old t)) rest le behind (same_rows 16 (old_row (moved ms) from_movi) (λ r. refl) (count16 t.body) t.body ∙ whole b t.at t.body stands)
  old_is t p rest stands le behind from_start named =
      let n = count16 t.body in
      let f = form.Idx1 FileStart in
      let fits : 16 * count16 t.body ≤ length t.body = mul-div-le (length t.body) 16 in
      let same : rows 16 (count16 t.body) (drop t.at b) ≡ rows 16 (count16 t.body) t.body = rows_at b t.at 16 (count16 t.body) t.body stands fits in
      let c : Cut = record { at = t.at; len = 16 * n; bytes = relocated ms f n (drop t.at b) } in
      let is = olds_relocated ms n t.body from_start 0 fits (named_of ms f n (drop t.at b) t.body same named.0) in
      let nought : t.at - t.at ≡ 0 = omega arith in
      let none : piece b t.at t.at ≡ [] = ap (λ (k : ℕ). take k (drop t.at b)) nought in
      refine_one b p c (table_cut h from_start (old t)) rest le (omega arith) (omega (arith, fits)) behind
      (sym is ∙ ap (λ (x : List ℕ). x ++ drop (16 * n) t.body) (sym (ap (flat_map (moved_row ms f)) same))
      ∙ ap (λ (x : List ℕ). relocated ms f n (drop t.at b) ++ x) (back b t.at t.body stands (16 * n) fits)
      ∙ ap (λ (x : List ℕ). x ++ (relocated ms f n (drop t.at b) ++ piece b (t.at + 16 * n) (t.at + length t.body))) (sym none))
    where
      rows_at : (b : List ℕ) (at w n : ℕ) (body : List ℕ) → slice b at (length body) ≡ body → w * n ≤ length body → rows w n (drop at b) ≡ rows w n body
      rows_at b at w n body stands room = sym (Rattle.opendml_index.proofs.Rows.rows_take w n (length body) (drop at b) room) ∙ ap (rows w n) stands

  super_is : (t : Table) (p : ℕ) (rest : List Cut) → IsTabled b (index t) → is_super t.body ≡ true → p ≤ t.at → Behind (t.at + length t.body) rest → AllByRecursion (IsNamed ms b) (index_changes ms t true)
      → left b p (map (change_cut ms b) (index_changes ms t true) ++ rest) ≡ left b p (record { at = t.at; len = length t.body; bytes = index_by h t.body true } ∷ rest)
  super_is t p rest tabled super le behind named =
      let body = t.body in
      let n = used body in
      let wide = (super_kind body (super_index body tabled.1.kind_is super)).1 in
      let room : 24 + 16 * used t.body ≤ length t.body = subst (λ (w : ℕ). 24 + w * used t.body ≤ length t.body) wide (leb-true (24 + row_width t.body * used t.body) (length t.body) tabled.1.entries_are_there) in
      let same : rows 16 (used t.body) (drop (t.at + 24) b) ≡ rows 16 (used t.body) (drop 24 t.body) = rows_stand b t.at 16 (used t.body) t.body tabled.0 room in
      let fits : 16 * used t.body ≤ length (drop 24 t.body) = omega (arith, room, length-drop 24 t.body) in
      let moves : List ℕ = relocated ms form.Super n (drop (t.at + 24) b) in
      let c : Cut = record { at = t.at + 24; len = 16 * n; bytes = relocated ms form.Super n (drop (t.at + 24) b) } in
      let is = supers_relocated ms n (drop 24 body) fits (named_of ms form.Super n (drop (t.at + 24) b) (drop 24 body) same named.0) in
      let far : drop (16 * used t.body) (drop 24 t.body) ≡ piece b (t.at + 24 + 16 * used t.body) (t.at + length t.body) =
      drop-drop (16 * n) 24 body ∙ ap (λ (k : ℕ). drop k body) (omega arith) ∙ back b t.at body tabled.0 (24 + 16 * n) room ∙ ap (λ (k : ℕ). piece b k (t.at + length body)) (omega arith)
      in
      refine_one b p c (record { at = t.at; len = length t.body; bytes = index_by h t.body true }) rest le (omega arith) (omega (arith, room)) behind
      (ap (λ (w : ℕ). take 24 body ++ map_rows w (super_row h) n (drop 24 body)) wide
      ∙ ap (λ (x : List ℕ). take 24 body ++ x) (sym is ∙ ap (λ (x : List ℕ). x ++ drop (16 * n) (drop 24 body)) (sym (ap (flat_map (moved_row ms form.Super)) same)) ∙ ap (λ (x : List ℕ). moves ++ x) far)
      ∙ ap (λ (x : List ℕ). x ++ (moves ++ piece b (t.at + 24 + 16 * n) (t.at + length body))) (front b t.at body tabled.0 24 (omega (arith, room))))

  standard_is : (t : Table) (p : ℕ) (rest : List Cut) → IsTabled b (index t) → is_super t.body ≡ false → p ≤ t.at → Behind (t.at + length t.body) rest → (o : Option ℕ)
      → AllByRecursion (IsNamed ms b) (standard_changes ms (head_in t.body) t.at o)
      → left b p (map (change_cut ms b) (standard_changes ms (head_in t.body) t.at o) ++ rest) ≡ left b p (record { at = t.at; len = length t.body; bytes = standard_by h t.body o } ∷ rest)
  standard_is t p rest tabled super le behind None named =
      refine_none b p (record { at = t.at; len = length t.body; bytes = t.body }) rest le behind (whole b t.at t.body tabled.0)
  standard_is t p rest tabled super le behind (Some x) named =
      let body = t.body in
      let n = used body in
      let old_base = index_base body in
      let new = (old_base + moved ms (old_base + x)) - (old_base + x) in
      let f = form.Standard (head_in body) new in
      let w = width f in
      let g = entry_row (λ y. moved ms (old_base + y) - new) in
      let wide = wide_form body new (standard_index body tabled.1.kind_is super) in
      let room : 24 + w * n ≤ length body = subst (λ (k : ℕ). 24 + k * used t.body ≤ length t.body) wide (leb-true (24 + row_width t.body * used t.body) (length t.body) tabled.1.entries_are_there) in
      let same : rows w n (drop (t.at + 24) b) ≡ rows w n (drop 24 body) = rows_stand b t.at w n body tabled.0 room in
      let fits : w * n ≤ length (drop 24 body) = omega (arith, room, length-drop 24 t.body) in
      let moves = relocated ms f n (drop (t.at + 24) b) in
      let c : Cut = record { at = t.at + 12; len = 8; bytes = to_le_bytes w64 new } in
      let e : Cut = record { at = t.at + 24; len = w * n; bytes = moves } in
      let is = entries_relocated ms n (drop 24 body) (head_in body) new fits (named_of ms f n (drop (t.at + 24) b) (drop 24 body) same named.1.0) in
      let end = t.at + length body in
      let far : drop (w * n) (drop 24 body) ≡ piece b (t.at + 24 + w * n) end =
      drop-drop (w * n) 24 body ∙ ap (λ (k : ℕ). drop k body) (omega arith) ∙ back b t.at body tabled.0 (24 + w * n) room ∙ ap (λ (k : ℕ). piece b k end) (omega arith)
      in
      let head : put64 12 new (take 24 body) ≡ piece b t.at (t.at + 12) ++ (to_le_bytes w64 new ++ piece b (t.at + 12 + 8) (t.at + 24)) =
      put_head b t.at body tabled.0 new (omega (arith, room))
      in
      refine_two b p c e (record { at = t.at; len = length t.body; bytes = standard_by h t.body (Some x) }) rest le (omega arith) (omega arith) (omega (arith, room)) behind
      (ap (λ (k : ℕ). put64 12 new (take 24 body) ++ map_rows k g n (drop 24 body)) wide
      ∙ ap (λ (y : List ℕ). put64 12 new (take 24 body) ++ y) (sym is ∙ ap (λ (y : List ℕ). y ++ drop (w * n) (drop 24 body)) (sym (ap (flat_map (moved_row ms f)) same)) ∙ ap (λ (y : List ℕ). moves ++ y) far)
      ∙ ap (λ (y : List ℕ). y ++ (moves ++ piece b (t.at + 24 + w * n) end)) head
      ∙ regroup (piece b t.at (t.at + 12)) (to_le_bytes w64 new) (piece b (t.at + 12 + 8) (t.at + 24)) (moves ++ piece b (t.at + 24 + w * n) end))
    where
      regroup : (a y m z : List ℕ) → (a ++ (y ++ m)) ++ z ≡ a ++ (y ++ (m ++ z))
      regroup a y m z = simp append_assoc

      put_head : (b : List ℕ) (at : ℕ) (body : List ℕ) → slice b at (length body) ≡ body → (v : ℕ) → 24 ≤ length body
          → put64 12 v (take 24 body) ≡ piece b at (at + 12) ++ (to_le_bytes w64 v ++ piece b (at + 12 + 8) (at + 24))
      put_head b at body stands v room =
          let z = take 24 body in
          let long : length (take 24 body) ≡ 24 = length-take-le 24 body room in
          let one : take 12 (take 24 body) ≡ piece b at (at + 12) = take-take 12 24 body (omega arith) ∙ front b at body stands 12 (omega (arith, room)) in
          let y = drop at b in
          let all : at + 24 - at ≡ 24 = omega arith in
          let is : take 24 body ≡ take 24 (drop at b) = front b at body stands 24 room ∙ ap (λ (k : ℕ). take k (drop at b)) all in
          let skip : drop 8 (drop 12 (take 24 body)) ≡ drop 20 (take 24 body) = drop-drop 8 12 (take 24 body) in
          let far : drop 20 (drop at b) ≡ drop (at + 12 + 8) b = drop-drop 20 at b ∙ ap (λ (k : ℕ). drop k b) (omega arith) in
          let four : 4 ≡ at + 24 - (at + 12 + 8) = omega arith in
          let two : drop 8 (drop 12 (take 24 body)) ≡ piece b (at + 12 + 8) (at + 24) =
          skip ∙ ap (drop 20) is ∙ drop-take 20 4 y ∙ ap (take 4) far ∙ ap (λ (k : ℕ). take k (drop (at + 12 + 8) b)) four
          in
          put_64 12 v z (omega (arith, long)) ∙ ap (λ (u : List ℕ). u ++ (to_le_bytes w64 v ++ drop 8 (drop 12 z))) one ∙ ap (λ (u : List ℕ). piece b at (at + 12) ++ (to_le_bytes w64 v ++ u)) two

  -- what changes of a table, before other spans
  pub table_is : (x : Tabled) (p : ℕ) (rest : List Cut) → IsTabled b x → p ≤ (table_of x).at → Behind ((table_of x).at + length (table_of x).body) rest → AllByRecursion (IsNamed ms b) (changes_of ms base x)
      → left b p (map (change_cut ms b) (changes_of ms base x) ++ rest) ≡ left b p (table_cut h base x ∷ rest)
  table_is (old t) p rest tabled le behind named = old_is t p rest tabled le behind base named
  table_is (index t) p rest tabled le behind named = go (is_super t.body) refl named
    where
      go : (s : Bool) → is_super t.body ≡ s → AllByRecursion (IsNamed ms b) (index_changes ms t s)
          → left b p (map (change_cut ms b) (index_changes ms t s) ++ rest) ≡ left b p (record { at = t.at; len = length t.body; bytes = index_by h t.body s } ∷ rest)
      go true e named = super_is t p rest tabled e le behind named
      go false e named = standard_is t p rest tabled e le behind (first_counted (entries t.body)) named

  -- ---- tables, one after the other

  behind_weaken : (q r : ℕ) (cs : List Cut) → q ≤ r → Behind r cs → Behind q cs
  behind_weaken q r [] le h = tt
  behind_weaken q r (c ∷ cs) le h = omega (arith, le, h)

  behind_table : (x : Tabled) (q : ℕ) (rest : List Cut) → q ≤ (table_of x).at → Behind q rest → Behind q (map (change_cut ms b) (changes_of ms base x) ++ rest)
  behind_table (old t) q rest le more = go base
    where
      go : (base : Base) → Behind q (map (change_cut ms b) (old_changes base t) ++ rest)
      go from_movi = more
      go from_start = le
  behind_table (index t) q rest le more = go (is_super t.body)
    where
      one : (o : Option ℕ) → Behind q (map (change_cut ms b) (standard_changes ms (head_in t.body) t.at o) ++ rest)
      one None = more
      one (Some x) = omega (arith, le)

      go : (s : Bool) → Behind q (map (change_cut ms b) (index_changes ms t s) ++ rest)
      go true = omega (arith, le)
      go false = one (first_counted (entries t.body))

  behind_all : (xs : List Tabled) (q end : ℕ) → Ascend q (map (table_cut h base) xs) end → Behind q (map (change_cut ms b) (flat_map (changes_of ms base) xs))
  behind_all [] q end asc = tt
  behind_all (x ∷ xs) q end asc =
      let rest = map (change_cut ms b) (flat_map (changes_of ms base) xs) in
      let more = behind_weaken q ((table_of x).at + length (table_of x).body) rest (omega (arith, asc.0)) (behind_all xs ((table_of x).at + length (table_of x).body) end asc.1) in
      subst (Behind q) (sym (map-append (change_cut ms b) (changes_of ms base x) (flat_map (changes_of ms base) xs))) (behind_table x q rest asc.0 more)

  all_parts : (P : Change → Type 0) (xs ys : List Change) → AllByRecursion P (xs ++ ys) → AllByRecursion P xs × AllByRecursion P ys
  all_parts P [] ys all = (tt, all)
  all_parts P (x ∷ xs) ys all = let r = all_parts P xs ys all.1 in ((all.0, r.0), r.1)

  pub tables_are : (xs : List Tabled) (p end : ℕ) → AllByRecursion (IsTabled b) xs → Ascend p (map (table_cut h base) xs) end → AllByRecursion (IsNamed ms b) (flat_map (changes_of ms base) xs)
      → left b p (map (change_cut ms b) (flat_map (changes_of ms base) xs)) ≡ left b p (map (table_cut h base) xs)
  tables_are [] p end tabled asc named = refl
  tables_are (x ∷ xs) p end tabled asc named =
      let rest = map (change_cut ms b) (flat_map (changes_of ms base) xs) in
      let stop = (table_of x).at + length (table_of x).body in
      let parts = all_parts (IsNamed ms b) (changes_of ms base x) (flat_map (changes_of ms base) xs) named in
      ap (left b p) (map-append (change_cut ms b) (changes_of ms base x) (flat_map (changes_of ms base) xs))
      ∙ table_is x p rest tabled.0 asc.0 (behind_all xs stop end asc.1) parts.0
      ∙ cut_more b p (table_cut h base x) rest asc.0
      ∙ ap (λ (y : List ℕ). piece b p (table_of x).at ++ (new_body h base x ++ y)) (tables_are xs stop end tabled.1 asc.1 parts.1)
      ∙ sym (cut_more b p (table_cut h base x) (map (table_cut h base) xs) asc.0)
