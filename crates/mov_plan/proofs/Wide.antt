-- An edit in which tables are widened: its sizes, its new file, and the form of its plan.
use Rattle.std.proofs.Common.{◌≡◌, ◌∙◌, ℕ, ◌+◌, ◌-◌, ◌*◌, ◌^◌, ◌≤◌, ◌<◌, Bool, true, false, cond, eqb, List, [], ◌∷◌, ◌++◌, length, map, drop, Option, Some, None, refl, sym, ap, subst, arith, inl, inr}
use Rattle.std.specs.Prelude.{◌&&◌, not, sum_by}
use Rattle.std.specs.List.{AllByRecursion}
use Rattle.std.proofs.lemmas.Bool.{le-leb, lt-leb}
use Rattle.me_bytes.specs.Bytes.{IsBytes}
use Rattle.part_tree.specs.Large.{Size, first_above, limited}
use Rattle.part_tree.specs.Moves.{Move, place}
use Rattle.part_tree.specs.Plans.{Belongs, applied}
use Rattle.part_tree.specs.declared.field.EditItem.{EditItem}
use Rattle.part_tree.specs.declared.plan.Plan.{Plan}
use Rattle.part_tree.specs.declared.plan.Plan.TheVariants.{InPlace, Rewrite}
use Rattle.carrier_model.specs.Gaps.{moves_of}
use Rattle.carrier_model.proofs.Gaps.{places_put}
use Rattle.container_model.specs.Chunk.{spell, spell_all}
use Rattle.container_model.specs.Cuts.{cuts_with}
use Rattle.container_model.specs.Rows.{numbers}
use Rattle.container_model.specs.Splice.{Ascend, Cut, Outside, end_of, gained, lost, shift, splice}
use Rattle.container_model.proofs.Units.{From}
use Rattle.field_model.specs.KindReads.{IsPlanOf}
use Rattle.mov_model.specs.After.{base_of, file_after, large_after, room_after, widens}
use Rattle.mov_model.specs.Carried.{Changes}
use Rattle.mov_model.specs.Cuts.{RowTable, header_cut, row_tables}
use Rattle.mov_model.specs.Edited.{changes}
use Rattle.mov_model.specs.Kind.{mov_kind}
use Rattle.mov_model.specs.Large.{key_sizes, user_sizes}
use Rattle.mov_model.specs.Movie.{Movie, all_atoms, movie_of, spell_movie}
use Rattle.mov_model.specs.New.{edit_cuts, edited_file, ends_file, fill, kids_at, new_movie, whole_pieces}
use Rattle.mov_model.specs.Reading.{count_parts}
use Rattle.mov_model.specs.Room.{has_room}
use Rattle.mov_model.specs.Support.{Readable}
use Rattle.mov_model.specs.WideCuts.{IsWideSplice, wide_cuts, wide_kid_cuts, wide_place}
use Rattle.mov_model.specs.Widen.{growth, widened, widened_file}
use Rattle.mov_model.proofs.Again.{file_bytes}
use Rattle.mov_model.proofs.Clauses.{header_len, held_inside}
use Rattle.mov_model.proofs.Large.{within, within_both}
use Rattle.mov_model.proofs.WideLarge.{growth_is, wide_file_length, wide_large}
use Rattle.mov_model.proofs.WideSizes.{body_same}
use Rattle.mov_model.proofs.WideSpliced.{wide_splice}
use Rattle.qt_atoms.specs.declared.walker.AtomAt.{AtomAt}
use Rattle.unit_plan.specs.declared.cut.CutAt.{CutAt}
use Rattle.unit_plan.specs.Cuts.{cut_in}
use Rattle.unit_plan.specs.Planned.{IsRewrite}
use Rattle.mov_plan.specs.Frame.{IsSoundMoov, body_len, size_by, size_cuts}
use Rattle.mov_plan.specs.Holders.{grown_by, head_in, put_all}
use Rattle.mov_plan.specs.Made.{IsNamed}
use Rattle.mov_plan.specs.Moved.{IsKeptIn}
use Rattle.mov_plan.specs.Planned.{AreHolders, IsKnown, IsSized, StandsIn, sizes_in}
use Rattle.mov_plan.specs.Tables.{merged, rows_of, table_len, width_of}
use Rattle.mov_plan.specs.declared.frame.MoovAt.{MoovAt}
use Rattle.mov_plan.specs.declared.plan.Sizes.{Sizes}
use Rattle.mov_plan.specs.declared.row.Units.{Units as UnitList}
use Rattle.mov_plan.specs.declared.tables.TableAt.{TableAt}
use Rattle.mov_plan.proofs.Alike.{merged_alike}
use Rattle.mov_plan.proofs.Among.{all_among, put_all_among}
use Rattle.mov_plan.proofs.Headed.{ascend_from, header_is}
use Rattle.mov_plan.proofs.Heads.{growth_told, heads_kept}
use Rattle.mov_plan.proofs.Laying.{Held, rows_behind, rows_fine}
use Rattle.mov_plan.proofs.Lying.{RowFine}
use Rattle.mov_plan.proofs.Mixed.{IsRow, all_weaken, map-both, merged_is, mixed}
use Rattle.mov_plan.proofs.Narrow.{body_told, edit, len_told, moov_told, parts_told, size_first, width_bytes}
use Rattle.mov_plan.proofs.Rowed.{PutTo, put_place, wide_row, wide_told}
use Rattle.mov_plan.proofs.Widens.{tables_lie}

-- a span as long as what stands in its place moves no place
shift_past : (c : Cut) (cs : List Cut) (p : ℕ) → length c.bytes ≡ c.len → From (end_of c) cs → Outside (c ∷ cs) p → shift (c ∷ cs) p ≡ shift cs p
shift_past c cs p same from (inl before, out) =
    ap (λ (t : Bool). (p + elim t [ true ↦ length c.bytes + gained cs p | false ↦ 0 ]) - elim t [ true ↦ c.len + lost cs p | false ↦ 0 ]) (lt-leb (end_of c) p (omega (arith, before)))
    ∙ sym (stays cs from)
  where
    stays : (cs : List Cut) → From (end_of c) cs → shift cs p ≡ (p + 0) - 0
    stays [] f = refl
    stays (d ∷ ds) f = ap (λ (t : Bool). (p + elim t [ true ↦ length d.bytes + gained ds p | false ↦ 0 ]) - elim t [ true ↦ d.len + lost ds p | false ↦ 0 ]) (lt-leb (end_of d) p (omega (arith, before, f)))
shift_past c cs p same from (inr past, out) =
    ap (λ (t : Bool). (p + elim t [ true ↦ length c.bytes + gained cs p | false ↦ 0 ]) - elim t [ true ↦ c.len + lost cs p | false ↦ 0 ]) (le-leb (end_of c) p past)
    ∙ omega (arith, same)

lower : (low mid high : ℕ) (cs : List Cut) → low ≤ mid → Ascend mid cs high → Ascend low cs high
lower low mid high [] le h = omega (arith, le, h)
lower low mid high (c ∷ cs) le h = (omega (arith, le, h.0), h.1)

some_same : (a b : ℕ) → Some a ≡ Some b → a ≡ b
some_same a b e = ap (λ (o : Option ℕ). Rattle.std.specs.Prelude.unwrap_or o 0) e

module _ (b : List ℕ) (e : List EditItem) (m : MoovAt) (ts : List TableAt) (u : UnitList) (known : IsKnown b e m ts u) (sound : IsSoundMoov m) (stands : StandsIn m u) (hs : List AtomAt) where
  abbrev bytes : IsBytes b
  bytes = known.bytes

  abbrev sup : Readable b
  sup = known.moov.supported.readable

  abbrev v : Movie
  v = movie_of b

  abbrev c : Changes
  c = changes b e

  abbrev f : ℕ → ℕ
  f = wide_place v c

  abbrev grown : ℕ
  grown = sum_by grown_by ts

  -- what the body of moov has
  abbrev n : ℕ
  n = (u.inner + m.left) + grown

  -- the spans but for the size of moov
  abbrev pub spans : List CutAt
  spans = put_all u.cuts.items (map (head_in ts) hs)

  abbrev slots : List Cut
  slots = cuts_with (wide_kid_cuts f) (fill (ends_file v c)) (kids_at v c) (whole_pieces v c)

  low : length b < 2 ^ 63
  low = omega (arith, known.moov.len, sound.small)

  is_splice : IsWideSplice b c (edited_file (widened_file b) c)
  is_splice = wide_splice b bytes sup known.moov.supported.small low c

  abbrev top : Cut
  top = header_cut v (length (new_movie (widened v) c).movie.body)

  top_same : length top.bytes ≡ top.len
  top_same = header_len v.movie.form v.movie.id (length (new_movie (widened v) c).movie.body) (length v.movie.body)

  up : Ascend (end_of top) slots (length b)
  up = is_splice.ascend.1

  -- the headers lie in the file
  pub heads_lie : AreHolders b hs → AllByRecursion (IsKeptIn m.len) (map (head_in ts) hs)
  heads_lie are = subst (λ (k : ℕ). AllByRecursion (IsKeptIn k) (map (head_in ts) hs)) (sym known.moov.len) (heads_kept b ts bytes sup c known.tables hs are f (end_of top) (length b) up)

  -- by how much moov grows
  pub grows : grown ≡ growth v
  grows = growth_told b ts bytes sup c known.tables ∙ sym (growth_is b bytes sup known.moov.supported.small low c)

  -- ---- what an mdat holds

  put_held : (p : ℕ) → Held b bytes sup c p → place (moves_of slots m.len) p ≡ Some (f p)
  put_held p h =
      let out = is_splice.outside p h in
      let file = ap length (file_bytes b bytes sup) in
      let lt : p < length b = omega (arith, held_inside 0 p h.0 (all_atoms v) h.1, file, Rattle.std.proofs.lemmas.List.length-append (spell_all (all_atoms v)) v.left) in
      let to : shift (wide_cuts v c) p ≡ f p = some_same (shift (wide_cuts v c) p) (f p) (sym (places_put (wide_cuts v c) (length b) p is_splice.ascend out lt) ∙ is_splice.put p h) in
      let here : Ascend 0 slots (length b) = lower 0 (end_of top) (length b) slots (omega arith) up in
      ap (λ (k : ℕ). place (moves_of slots k) p) known.moov.len
      ∙ places_put slots (length b) p here out.1 lt
      ∙ ap Some (sym (shift_past top slots p top_same (ascend_from (end_of top) (length b) slots up) out) ∙ to)

  put_each : (ms : List Move) → ms ≡ moves_of slots m.len → (ps : List ℕ) → AllByRecursion (Held b bytes sup c) ps → PutTo ms f ps
  put_each ms is [] h = tt
  put_each ms is (p ∷ ps) h = (put_place ms p (f p) (ap (λ (x : List Move). place x p) is ∙ put_held p h.0), put_each ms is ps h.1)

  each_row : (ms : List Move) → ms ≡ moves_of slots m.len → (ts : List TableAt) → AllByRecursion (RowFine b (Held b bytes sup c)) (map rows_of ts) → AllByRecursion (IsNamed true ms b) ts → AllByRecursion (IsRow (wide_row f b) true ms b) ts
  each_row ms is [] fine named = tt
  each_row ms is (t ∷ ts) fine named =
      let inside : t.at + table_len t ≤ length b = omega (arith, fine.0.0, ap (λ (k : ℕ). k * t.rows) (width_bytes t.wide)) in
      (wide_told ms f b t inside named.0 (put_each ms is (numbers (width_of t.wide) t.rows (drop t.at b)) fine.0.1), each_row ms is ts fine.1 named.1)

  -- ---- by what the headers and the tables are

  module _ (mix : mixed (wide_row f b) (all_among (edit_cuts v c) (map (cut_in b) (map (head_in ts) hs))) (row_tables b) ≡ slots) where
    spans_mixed : mixed (wide_row f b) (map (cut_in b) spans) (row_tables b) ≡ slots
    spans_mixed =
        ap (λ (cs : List Cut). mixed (wide_row f b) cs (row_tables b)) (put_all_among b u.cuts.items (map (head_in ts) hs))
        ∙ ap (λ (cs : List Cut). mixed (wide_row f b) (all_among cs (map (cut_in b) (map (head_in ts) hs))) (row_tables b)) (edit b e m ts u known sound stands).cuts
        ∙ mix

    -- the ranges between the spans
    pub moves_told : (ms : List Move) → ms ≡ moves_of (merged true [] b spans ts) m.len → ms ≡ moves_of slots m.len
    moves_told ms is =
        is ∙ merged_alike [] f b spans ts (tables_lie b e bytes sup ts known.tables) m.len
        ∙ ap (λ (rs : List RowTable). moves_of (mixed (wide_row f b) (map (cut_in b) spans) rs) m.len) known.tables
        ∙ ap (λ (cs : List Cut). moves_of cs m.len) spans_mixed

    module _ (wide : widens b e ≡ true) where
      pub file_is : file_after b e ≡ edited_file (widened_file b) c
      file_is = ap (λ (t : Bool). edited_file (base_of b t) c) wide

      wide_body : n ≡ length (new_movie (widened v) c).movie.body
      wide_body = omega (arith, body_same b bytes sup known.moov.supported.small low c, grows, body_told b e m ts u known sound stands)

      -- What a plan makes is the new file.
      pub makes : (ms : List Move) → ms ≡ moves_of (merged true [] b spans ts) m.len → AllByRecursion (IsNamed true ms b) ts → splice b (merged true ms b (size_cuts m n ++ spans) ts) ≡ file_after b e
      makes ms is named =
          let g = wide_row f b in
          let size = map (cut_in b) (size_cuts m n) in
          let rows : AllByRecursion (IsRow g true ms b) ts = each_row ms (moves_told ms is) ts (subst (AllByRecursion (RowFine b (Held b bytes sup c))) (sym known.tables) (rows_fine b bytes sup c)) named in
          let all : merged true ms b (size_cuts m n ++ spans) ts ≡ size ++ slots
          = merged_is g true ms b (size_cuts m n ++ spans) ts rows
          ∙ ap (λ (rs : List RowTable). mixed g (map (cut_in b) (size_cuts m n ++ spans)) rs) known.tables
          ∙ ap (λ (cs : List Cut). mixed g cs (row_tables b)) (map-both (cut_in b) (size_cuts m n) spans)
          ∙ first (eqb n (body_len m))
          ∙ ap (λ (cs : List Cut). size ++ cs) spans_mixed in
          ap (splice b) all
          ∙ header_is b bytes sup c m known.moov n slots (ascend_from (end_of top) (length b) slots up)
          ∙ ap (λ (k : ℕ). splice b (header_cut v k ∷ slots)) wide_body
          ∙ sym is_splice.spliced
          ∙ sym file_is
        where
          behind : AllByRecursion (λ (r : RowTable). m.from < r.at) (row_tables b)
          behind = all_weaken (λ (r : RowTable). kids_at v c < r.at) (λ (r : RowTable). m.from < r.at) (λ r x. omega (arith, x, known.moov.from)) (row_tables b) (rows_behind b bytes sup c)

          first : (t : Bool) → mixed (wide_row f b) (map (cut_in b) (cond t [] (size_by m.form m.at n)) ++ map (cut_in b) spans) (row_tables b)
              ≡ map (cut_in b) (cond t [] (size_by m.form m.at n)) ++ mixed (wide_row f b) (map (cut_in b) spans) (row_tables b)
          first true = refl
          first false = size_first (wide_row f b) b m.form m.at n m.from (map (cut_in b) spans) (row_tables b) sound.head behind

  -- ---- sizes

  abbrev three_wide : List Size
  three_wide =
      limited 65536 (count_parts (new_movie v c))
      ∷ (limited (2 ^ 26) (length (spell (new_movie v c).movie) + growth v) ∷ (limited 9223372036854775807 (length (spell_movie (new_movie v c)) + growth v) ∷ []))

  three_is : (s : Sizes) → IsSized m u grown s → three_wide ≡ sizes_in s
  three_is s sized =
      let parts : count_parts (new_movie v c) ≡ s.parts = sym (sized.parts ∙ parts_told b e m ts u known sound stands) in
      let whole : length (spell (new_movie v c).movie) + growth v ≡ s.moov = omega (arith, moov_told b e m ts u known sound stands, sized.moov, sized.body, grows) in
      let file : length (spell_movie (new_movie v c)) + growth v ≡ s.len = omega (arith, len_told b e m ts u known sound stands, sized.len, grows) in
      ap (λ (k : ℕ). limited 65536 k ∷ (limited (2 ^ 26) (length (spell (new_movie v c).movie) + growth v) ∷ (limited 9223372036854775807 (length (spell_movie (new_movie v c)) + growth v) ∷ []))) parts
      ∙ ap (λ (k : ℕ). limited 65536 s.parts ∷ (limited (2 ^ 26) k ∷ (limited 9223372036854775807 (length (spell_movie (new_movie v c)) + growth v) ∷ []))) whole
      ∙ ap (λ (k : ℕ). limited 65536 s.parts ∷ (limited (2 ^ 26) s.moov ∷ (limited 9223372036854775807 k ∷ []))) file

  -- It is the first of the numbers that passes its limit.
  pub large_told : widens b e ≡ true → (s : Sizes) → IsSized m u grown s → large_after b e ≡ first_above (sizes_in s)
  large_told wide s sized =
      let w = within_both (user_sizes v c.users) (key_sizes v c.keys) (within (user_sizes v c.users ++ key_sizes v c.keys) known.carried.carriers) in
      wide_large b bytes sup known.moov.supported.small low e wide w.0 w.1 ∙ ap first_above (three_is s sized)

  pub file_long : widens b e ≡ true → (s : Sizes) → IsSized m u grown s → s.len ≡ length (file_after b e)
  file_long wide s sized =
      let same : length (file_after b e) ≡ length (edited_file (widened_file b) c) = ap (λ (t : Bool). length (edited_file (base_of b t) c)) wide in
      omega (arith, len_told b e m ts u known sound stands, sized.len, grows, wide_file_length b bytes sup known.moov.supported.small low c, same)

-- a new file is the plan of an edit that widens
pub plan_is : (b : List ℕ) (e : List EditItem) → widens b e ≡ true → (new : ℕ) → new ≡ length (file_after b e) → (p : Plan) → IsRewrite new p → Belongs p b → applied p b ≡ file_after b e → large_after b e ≡ None → IsPlanOf mov_kind b e p
plan_is b e wide new long (InPlace old k qs) form belongs makes small = absurd form
plan_is b e wide new long (Rewrite k moves segments) form belongs makes small =
    record { fits = small; makes = makes; form = ((λ room. no_room room), form ∙ long); belongs = belongs }
  where
    no_room : room_after b e ≡ true → ⊥
    no_room room = let off : (not true && has_room b e) ≡ true = sym (ap (λ (t : Bool). not t && has_room b e) wide) ∙ room in absurd cc
