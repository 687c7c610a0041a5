-- An edit in which each table keeps its width: its sizes, its new file, and the form of its plan.
use Rattle.std.proofs.Common.{◌≡◌, ◌∙◌, ◌⊎◌, ℕ, ◌+◌, ◌-◌, ◌*◌, ◌^◌, ◌≤◌, ◌<◌, Bool, true, false, cond, eqb, leb, List, [], ◌∷◌, ◌++◌, length, map, drop, Some, None, refl, sym, ap, subst, arith, inl, inr}
use Rattle.std.specs.Prelude.{◌&&◌, not}
use Rattle.std.specs.List.{AllByRecursion, flat_map}
use Rattle.std.proofs.lemmas.Bool.{and_parts, le-leb, leb-true}
use Rattle.std.proofs.lemmas.List.{length-append}
use Rattle.me_bytes.specs.Bytes.{IsBytes}
use Rattle.part_tree.specs.Large.{first_above, limited}
use Rattle.part_tree.specs.Moves.{Move, place}
use Rattle.part_tree.specs.Patches.{all_bytes}
use Rattle.part_tree.specs.Plans.{Belongs, CanRun, applied}
use Rattle.part_tree.specs.declared.field.EditItem.{EditItem}
use Rattle.part_tree.specs.declared.plan.Patch.{Patch}
use Rattle.part_tree.specs.declared.plan.Plan.{Plan}
use Rattle.part_tree.specs.declared.plan.Plan.TheVariants.{InPlace, Rewrite}
use Rattle.carrier_model.specs.Gaps.{moves_of}
use Rattle.container_model.specs.Chunk.{Chunk, header_bytes, spell, spell_all}
use Rattle.container_model.specs.Cuts.{cuts_with}
use Rattle.container_model.specs.Rows.{numbers}
use Rattle.container_model.specs.Splice.{Ascend, Cut, end_of, shift, splice}
use Rattle.container_model.proofs.Units.{From, cuts_from, spell_all-append}
use Rattle.field_model.specs.KindReads.{IsForm, IsPlanOf}
use Rattle.mov_model.specs.After.{base_of, file_after, large_after, room_after, widens}
use Rattle.mov_model.specs.Carried.{Changes}
use Rattle.mov_model.specs.Cuts.{RowTable, header_cut, kid_cuts, row_tables}
use Rattle.mov_model.specs.Edited.{changes, new_file}
use Rattle.mov_model.specs.Kind.{mov_kind}
use Rattle.mov_model.specs.Movie.{Movie, movie_of, spell_movie}
use Rattle.mov_model.specs.New.{edit_cuts, edited_file, ends_file, fill, kids_at, laid_movie, new_movie, whole_pieces}
use Rattle.mov_model.specs.Reading.{count_parts}
use Rattle.mov_model.specs.Room.{Room, has_room, patches, units_fit}
use Rattle.mov_model.specs.Support.{Readable}
use Rattle.mov_model.proofs.Again.{file_bytes, kids_joined, kids_read, moov_padless}
use Rattle.mov_model.proofs.AsKind.{in_place}
use Rattle.mov_model.proofs.Clauses.{header_len, put_law}
use Rattle.mov_model.proofs.Order.{patches_three}
use Rattle.mov_model.proofs.Spliced.{ascend_law, laid_spliced, new_law}
use Rattle.unit_plan.specs.declared.cut.CutAt.{CutAt}
use Rattle.unit_plan.specs.Cuts.{cut_in, patch_of}
use Rattle.unit_plan.specs.Planned as Units
use Rattle.unit_plan.specs.Sized.{IsTooMuch, spliced_len}
use Rattle.unit_plan.proofs.Overlaid.{spliced_length}
use Rattle.mov_plan.specs.Edits.{IsEditOf}
use Rattle.mov_plan.specs.Frame.{IsSoundMoov, body_len, size_by, size_cuts}
use Rattle.mov_plan.specs.Made.{IsNamed}
use Rattle.mov_plan.specs.Moved.{GoBetween}
use Rattle.mov_plan.specs.Places.{outcome_in}
use Rattle.mov_plan.specs.Planned.{IsKnown, IsSized, StandsIn, sizes_in}
use Rattle.mov_plan.specs.Tables.{merged, rows_of, table_len, width_of}
use Rattle.mov_plan.specs.declared.frame.MoovAt.{MoovAt}
use Rattle.mov_plan.specs.declared.plan.Sizes.{Sizes}
use Rattle.mov_plan.specs.declared.row.Units.{Units as UnitList}
use Rattle.mov_plan.specs.declared.tables.TableAt.{TableAt}
use Rattle.qt_atoms.specs.declared.header.SizeForm.{SizeForm}
use Rattle.qt_atoms.specs.declared.header.SizeForm.TheVariants.{Short, Long, ToEnd}
use Rattle.qt_atoms.specs.Walk.{header_len as front_len}
use Rattle.mov_plan.proofs.Counted.{body_law, parts_law}
use Rattle.mov_plan.proofs.Headed.{ascend_from, header_is, patch_is}
use Rattle.mov_plan.proofs.Joined.{row_is}
use Rattle.mov_plan.proofs.Laying.{Held, rows_behind, rows_fine, slots_mixed}
use Rattle.mov_plan.proofs.Lying.{RowFine}
use Rattle.mov_plan.proofs.Mixed.{IsRow, map-both, merged_is, mixed, mixed_first}
use Rattle.mov_plan.proofs.Rowed.{PutTo, put_place, row_cut, table_told}
use Rattle.mov_plan.proofs.Limits.{large_law, three}
use Rattle.mov_plan.proofs.Sized.{framed_ascend, framed_len, kept_in_all, units_ascend}
use Rattle.mov_model.proofs.Large.{within}

-- the span of the size stands before all tables
pub size_first : (g : RowTable → Cut) (b : List ℕ) (s : SizeForm) (at n from : ℕ) (cs : List Cut) (rs : List RowTable) → at + front_len s ≡ from → AllByRecursion (λ (r : RowTable). from < r.at) rs
    → mixed g (map (cut_in b) (size_by s at n) ++ cs) rs ≡ map (cut_in b) (size_by s at n) ++ mixed g cs rs
size_first g b Short at n from cs rs e h =
    mixed_first g _ cs rs (Rattle.mov_plan.proofs.Mixed.all_weaken (λ (r : RowTable). from < r.at) (λ (r : RowTable). at < r.at) (λ r x. omega (arith, e, x)) rs h)
size_first g b Long at n from cs rs e h =
    mixed_first g _ cs rs (Rattle.mov_plan.proofs.Mixed.all_weaken (λ (r : RowTable). from < r.at) (λ (r : RowTable). at + 8 < r.at) (λ r x. omega (arith, e, x)) rs h)
size_first g b ToEnd at n from cs rs e h = refl

-- a movie of which only the body of moov is another, of the same length, is as long
same_long : (m n : Movie) → n.before ≡ m.before → n.movie.form ≡ m.movie.form → n.movie.id ≡ m.movie.id → n.movie.pad ≡ m.movie.pad → length n.movie.body ≡ length m.movie.body → n.behind ≡ m.behind → n.left ≡ m.left
    → length (spell_movie n) ≡ length (spell_movie m)
same_long m n before form id pad body behind left =
    let long : (x : Movie) → length (spell_movie x) ≡ ((length (spell_all x.before) + (length (header_bytes x.movie.form x.movie.id (length x.movie.body)) + (length x.movie.body + length x.movie.pad))) + length (spell_all x.behind)) + length x.left
    = λ (x : Movie).
    let head = header_bytes x.movie.form x.movie.id (length x.movie.body) in
    omega (arith, length-append (spell_all (x.before ++ x.movie ∷ x.behind)) x.left, ap length (spell_all-append x.before (x.movie ∷ x.behind)), length-append (spell_all x.before) (spell x.movie ++ spell_all x.behind), length-append (spell x.movie) (spell_all x.behind), length-append head (x.movie.body ++ x.movie.pad), length-append x.movie.body x.movie.pad) in
    let head : length (header_bytes n.movie.form n.movie.id (length n.movie.body)) ≡ length (header_bytes m.movie.form m.movie.id (length m.movie.body))
    = ap (λ f. length (header_bytes f n.movie.id (length n.movie.body))) form ∙ ap (λ (i : List ℕ). length (header_bytes m.movie.form i (length n.movie.body))) id ∙ ap (λ (k : ℕ). length (header_bytes m.movie.form m.movie.id k)) body in
    omega (arith, long n, long m, head, body, ap length pad, ap length left, ap (λ (cs : List Chunk). length (spell_all cs)) before, ap (λ (cs : List Chunk). length (spell_all cs)) behind)

pub width_bytes : (w : Bool) → (width_of w).bytes ≡ cond w 8 4
width_bytes true = refl
width_bytes false = refl

both_true : (s t : Bool) → s ≡ true → t ≡ true → (s && t) ≡ true
both_true true true e i = refl
both_true true false e i = absurd cc
both_true false t e i = absurd cc

module _ (b : List ℕ) (e : List EditItem) (m : MoovAt) (ts : List TableAt) (u : UnitList) (known : IsKnown b e m ts u) (sound : IsSoundMoov m) (stands : StandsIn m u) where
  abbrev bytes : IsBytes b
  bytes = known.bytes

  abbrev sup : Readable b
  sup = known.moov.supported.readable

  abbrev v : Movie
  v = movie_of b

  abbrev c : Changes
  c = changes b e

  abbrev f : ℕ → ℕ
  f = shift (edit_cuts v c)

  -- what the body of moov has
  abbrev pub n : ℕ
  n = u.inner + m.left

  abbrev pub framed : List CutAt
  framed = size_cuts m n ++ u.cuts.items

  pub edit : IsEditOf v c (outcome_in b u)
  edit = subst (IsEditOf v c) (sym known.units) (row_is v c (kids_read b bytes sup).0)

  -- ---- sizes

  pub parts_told : m.others + u.parts ≡ count_parts (new_movie v c)
  parts_told = omega (arith, edit.parts, known.moov.others, parts_law b bytes sup c known.carried.carriers)

  pub laid_told : n ≡ length (laid_movie v c).movie.body
  laid_told = omega (arith, edit.inner, known.moov.left)

  pub body_told : n ≡ length (new_movie v c).movie.body
  body_told = laid_told ∙ sym (body_law b bytes sup c known.carried.carriers)

  pub moov_told : n + (m.from - m.at) ≡ length (spell (new_movie v c).movie)
  moov_told =
      let now = (new_movie v c).movie in
      let head = header_bytes now.form now.id (length now.body) in
      let same = header_len v.movie.form v.movie.id (length now.body) (length v.movie.body) in
      omega (arith, body_told, known.moov.at, known.moov.from, same, length-append head (now.body ++ now.pad), length-append now.body now.pad, ap length (moov_padless b bytes sup))

  -- the file, before its tables are relocated
  laid_is : spell_movie (laid_movie v c) ≡ splice b (map (cut_in b) framed)
  laid_is =
      let k = length (laid_movie v c).movie.body in
      laid_spliced v c (kids_joined b bytes sup) (moov_padless b bytes sup)
      ∙ ap (λ (x : List ℕ). splice x (header_cut v k ∷ edit_cuts v c)) (file_bytes b bytes sup)
      ∙ sym (header_is b bytes sup c m known.moov k (edit_cuts v c) (cuts_from (fill (ends_file v c)) (kids_at v c) (whole_pieces v c) (kids_at v c) (omega arith)))
      ∙ ap (λ (j : ℕ). splice b (map (cut_in b) (size_cuts m j) ++ edit_cuts v c)) (sym laid_told)
      ∙ ap (λ (cs : List Cut). splice b (map (cut_in b) (size_cuts m n) ++ cs)) (sym edit.cuts)
      ∙ ap (splice b) (sym (map-both (cut_in b) (size_cuts m n) u.cuts.items))

  pub len_told : spliced_len m.len u.cuts.items ≡ length (spell_movie (new_movie v c))
  len_told =
      sym (framed_len m sound n u.cuts.items stands.ascend)
      ∙ sym (spliced_length b m.len framed (sym known.moov.len) (framed_ascend m sound n u.cuts.items stands.ascend))
      ∙ ap length (sym laid_is)
      ∙ sym (same_long (laid_movie v c) (new_movie v c) refl refl refl refl (body_law b bytes sup c known.carried.carriers) refl refl)

  -- where the ranges between the spans go
  pub goes : (ms : List Move) → GoBetween m.len u.cuts.items ms → ms ≡ moves_of (edit_cuts v c) m.len
  goes ms between =
      between b (sym known.moov.len) (kept_in_all m.from (m.end + m.behind.gap) m.len u.cuts.items (omega (arith, sound.inside)) stands.ascend)
      ∙ ap (λ (cs : List Cut). moves_of cs m.len) edit.cuts

  -- ---- the new file

  module _ (narrow : widens b e ≡ false) where
    pub file_is : file_after b e ≡ new_file b e
    file_is = ap (λ (t : Bool). edited_file (base_of b t) c) narrow

    pub file_long : spliced_len m.len u.cuts.items ≡ length (file_after b e)
    unfolding edited_file
    file_long = len_told ∙ sym (ap length file_is)

    each_row : (ms : List Move) → ms ≡ moves_of (edit_cuts v c) m.len → (ts : List TableAt) → AllByRecursion (RowFine b (Held b bytes sup c)) (map rows_of ts) → AllByRecursion (IsNamed false ms b) ts → AllByRecursion (IsRow (row_cut f b) false ms b) ts
    each_row ms is [] fine named = tt
    each_row ms is (t ∷ ts) fine named =
        let inside : t.at + table_len t ≤ length b = omega (arith, fine.0.0, ap (λ (k : ℕ). k * t.rows) (width_bytes t.wide)) in
        (table_told ms f b t inside named.0 (put_all ms is (numbers (width_of t.wide) t.rows (drop t.at b)) fine.0.1), each_row ms is ts fine.1 named.1)
      where
        put_all : (ms : List Move) → ms ≡ moves_of (edit_cuts v c) m.len → (ps : List ℕ) → AllByRecursion (Held b bytes sup c) ps → PutTo ms f ps
        put_all ms is [] h = tt
        put_all ms is (p ∷ ps) h =
            let put : place ms p ≡ Some (f p)
            = ap (λ (x : List Move). place x p) (is ∙ ap (moves_of (edit_cuts v c)) known.moov.len) ∙ put_law b bytes sup c p h.0.0 h.0.1 in
            (put_place ms p (f p) put, put_all ms is ps h.1)

    -- What a plan makes is the new file.
    pub makes : (ms : List Move) → ms ≡ moves_of (edit_cuts v c) m.len → AllByRecursion (IsNamed false ms b) ts → splice b (merged false ms b framed ts) ≡ file_after b e
    makes ms is named =
        let g = row_cut f b in
        let slots = cuts_with (kid_cuts f) (fill (ends_file v c)) (kids_at v c) (whole_pieces v c) in
        let rows : AllByRecursion (IsRow g false ms b) ts = each_row ms is ts (subst (AllByRecursion (RowFine b (Held b bytes sup c))) (sym known.tables) (rows_fine b bytes sup c)) named in
        let mix : merged false ms b framed ts ≡ map (cut_in b) (size_cuts m n) ++ slots
        = merged_is g false ms b framed ts rows
        ∙ ap (λ (rs : List RowTable). mixed g (map (cut_in b) framed) rs) known.tables
        ∙ ap (λ (cs : List Cut). mixed g cs (row_tables b)) (map-both (cut_in b) (size_cuts m n) u.cuts.items)
        ∙ ap (λ (cs : List Cut). mixed g (map (cut_in b) (size_cuts m n) ++ cs) (row_tables b)) edit.cuts
        ∙ first (eqb n (body_len m))
        ∙ ap (λ (cs : List Cut). map (cut_in b) (size_cuts m n) ++ cs) (slots_mixed b bytes sup c) in
        let up : Ascend (end_of (header_cut v (length (new_movie v c).movie.body))) slots (length b) = (ascend_law b e bytes sup).1 in
        let from : From (kids_at v c) slots = ascend_from (end_of (header_cut v (length (new_movie v c).movie.body))) (length b) slots up in
        ap (splice b) mix
        ∙ header_is b bytes sup c m known.moov n slots from
        ∙ ap (λ (k : ℕ). splice b (header_cut v k ∷ slots)) body_told
        ∙ sym (new_law b e bytes sup)
        ∙ sym file_is
      where
        behind : AllByRecursion (λ (r : RowTable). m.from < r.at) (row_tables b)
        behind = Rattle.mov_plan.proofs.Mixed.all_weaken (λ (r : RowTable). kids_at v c < r.at) (λ (r : RowTable). m.from < r.at) (λ r x. omega (arith, x, known.moov.from)) (row_tables b) (rows_behind b bytes sup c)

        first : (t : Bool) → mixed (row_cut f b) (map (cut_in b) (cond t [] (size_by m.form m.at n)) ++ edit_cuts v c) (row_tables b)
            ≡ map (cut_in b) (cond t [] (size_by m.form m.at n)) ++ mixed (row_cut f b) (edit_cuts v c) (row_tables b)
        first true = refl
        first false = size_first (row_cut f b) b m.form m.at n m.from (edit_cuts v c) (row_tables b) sound.head behind

    -- ---- the first size that is too large

    three_is : (s : Sizes) → IsSized m u 0 s → three v c ≡ sizes_in s
    three_is s sized =
        let parts : count_parts (new_movie v c) ≡ s.parts = sym (sized.parts ∙ parts_told) in
        let whole : length (spell (new_movie v c).movie) ≡ s.moov = omega (arith, moov_told, sized.moov, sized.body) in
        let file : length (spell_movie (new_movie v c)) ≡ s.len = omega (arith, len_told, sized.len) in
        ap (λ (k : ℕ). limited 65536 k ∷ (limited (2 ^ 26) (length (spell (new_movie v c).movie)) ∷ (limited 9223372036854775807 (length (spell_movie (new_movie v c))) ∷ []))) parts
        ∙ ap (λ (k : ℕ). limited 65536 s.parts ∷ (limited (2 ^ 26) k ∷ (limited 9223372036854775807 (length (spell_movie (new_movie v c))) ∷ []))) whole
        ∙ ap (λ (k : ℕ). limited 65536 s.parts ∷ (limited (2 ^ 26) s.moov ∷ (limited 9223372036854775807 k ∷ []))) file

    room_left : first_above (three v c) ≡ None → length b + length (splice b (edit_cuts v c)) ≤ 18446744073709551615
    room_left fit =
        let file = (within (three v c) fit).1.1.0 in
        let spliced = spliced_length b m.len u.cuts.items (sym known.moov.len) (units_ascend m sound 0 u.cuts.items stands.ascend) in
        let same = ap (λ (cs : List Cut). length (splice b cs)) edit.cuts in
        omega (arith, file, spliced, same, len_told, known.moov.len, sound.small)

    -- It is the first of the numbers that passes its limit.
    pub large_told : (s : Sizes) → IsSized m u 0 s → large_after b e ≡ first_above (sizes_in s)
    large_told s sized = large_law b e bytes sup known.carried.effect narrow known.carried.carriers room_left ∙ ap first_above (three_is s sized)

    -- ---- in place or not

    pub patches_told : flat_map patch_of framed ≡ patches b e
    patches_told =
        Rattle.std.proofs.lemmas.List.Concat.flat_map-append patch_of (size_cuts m n) u.cuts.items
        ∙ ap (λ (x : List Patch). x ++ flat_map patch_of u.cuts.items) (patch_is b bytes sup c m known.moov n ∙ ap (Rattle.mov_model.specs.Room.moov_patch v) body_told)
        ∙ ap (λ (x : List Patch). Rattle.mov_model.specs.Room.moov_patch v (length (new_movie v c).movie.body) ++ x) edit.patches

    room_is : room_after b e ≡ has_room b e
    room_is = ap (λ (t : Bool). not t && has_room b e) narrow

    room_parts : room_after b e ≡ true → (u.fits ≡ true) × (all_bytes (patches b e) ≤ 2 ^ 24)
    room_parts room =
        let p = and_parts (units_fit (ends_file v c) (whole_pieces v c)) (leb (all_bytes (patches b e)) (2 ^ 24)) (sym room_is ∙ room) in
        (edit.fits ∙ p.0, leb-true (all_bytes (patches b e)) (2 ^ 24) p.1)

    pub form_told : (new : ℕ) → new ≡ length (file_after b e) → (p : Plan) → CanRun p → Units.IsPlanOf u.fits m.len new (flat_map patch_of framed) p → IsForm mov_kind b e p
    form_told new long (InPlace old k qs) can h =
        let ps : qs ≡ patches b e = h.3 ∙ patches_told in
        let few : all_bytes (patches b e) ≤ 2 ^ 24 = omega (arith, can.rules.small, ap all_bytes ps) in (
          room_is ∙ both_true (units_fit (ends_file v c) (whole_pieces v c)) (leb (all_bytes (patches b e)) (2 ^ 24)) (sym edit.fits ∙ h.0) (le-leb (all_bytes (patches b e)) (2 ^ 24) few),
          h.1 ∙ known.moov.len,
          h.2 ∙ long,
          ps,
        )
    form_told new long (Rewrite k moves segments) can h = ((λ room. by room h.0), h.1 ∙ long)
      where
        by : room_after b e ≡ true → (u.fits ≡ false) ⊎ IsTooMuch (flat_map patch_of framed) → ⊥
        by room (inl unfit) = let fit = (room_parts room).0 in absurd cc
        by room (inr (inl many)) = absurd (omega (arith, many, ap (λ (x : List Patch). length x) patches_told, patches_three b e bytes sup))
        by room (inr (inr much)) = absurd (omega (arith, much, ap all_bytes patches_told, (room_parts room).1))

    -- ---- the plan

    -- in place it makes the new file
    pub placed : (old k : ℕ) (qs : List Patch) → IsForm mov_kind b e (InPlace old k qs) → applied (InPlace old k qs) b ≡ file_after b e
    placed old k qs h =
        let room : has_room b e ≡ true = sym room_is ∙ h.0 in
        let made = (in_place b e bytes known.moov.supported room).makes in
        ap (λ (x : List Patch). Rattle.part_tree.specs.Patches.laid k x b) h.3 ∙ ap (λ (j : ℕ). Rattle.part_tree.specs.Patches.laid j (patches b e) b) (h.2 ∙ ap length file_is) ∙ made ∙ sym file_is

    -- a plan by its form, where it is known what a new file is
    pub plan_is : (new : ℕ) → new ≡ length (file_after b e) → (p : Plan) → CanRun p → Belongs p b → Units.IsPlanOf u.fits m.len new (flat_map patch_of framed) p → (Units.IsRewrite new p → applied p b ≡ file_after b e) → large_after b e ≡ None → IsPlanOf mov_kind b e p
    plan_is new long p can belongs h rewrites small = record { fits = small; makes = go p can h rewrites; form = form_told new long p can h; belongs = belongs }
      where
        go : (p : Plan) → CanRun p → Units.IsPlanOf u.fits m.len new (flat_map patch_of framed) p → (Units.IsRewrite new p → applied p b ≡ file_after b e) → applied p b ≡ file_after b e
        go (InPlace old k qs) can h r = placed old k qs (form_told new long (InPlace old k qs) can h)
        go (Rewrite k moves segments) can h r = r h.1
