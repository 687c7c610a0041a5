-- The headers of atoms that hold tables, among the units and the rows of the atoms that are copied.
use Rattle.std.proofs.Common.{◌≡◌, ◌∙◌, ℕ, ◌+◌, ◌-◌, ◌*◌, ◌≤◌, ◌<◌, Bool, true, false, cond, List, [], ◌∷◌, ◌++◌, length, map, take, drop, Option, Some, None, refl, sym, ap, subst, arith}
use Rattle.std.specs.Prelude.{not, codes}
use Rattle.std.specs.List.{AllByRecursion, flat_map}
use Rattle.std.proofs.lemmas.List.{drop-drop, drop-take, length-append}
use Rattle.me_bytes.specs.Bytes.{IsBytes}
use Rattle.carrier_model.proofs.Fitted.{LastOnly}
use Rattle.carrier_model.specs.Steps.{carried}
use Rattle.container_model.specs.Atoms.{is}
use Rattle.container_model.specs.Chunk.{Chunk, spell, spell_all}
use Rattle.container_model.specs.Cuts.{cuts_with}
use Rattle.container_model.specs.Rows.{Width, be32, be64, numbers, spelled}
use Rattle.container_model.specs.Splice.{Cut}
use Rattle.container_model.specs.Units.{Cell, Fill, Piece, Slot, begun, closed, copied, cut_of, edited, gap, is_empty, kept, lacks_pad, replaced, shut, units, was}
use Rattle.container_model.specs.Walk.{Step, along, body_at, chunk_at, end_at, walk}
use Rattle.container_model.proofs.Units.{begun_bytes}
use Rattle.container_model.proofs.Walk.{sound_to}
use Rattle.mov_model.specs.Atoms.{Place, cell_of, dinf, file, format, mdia, minf, moov, opens, stbl, trak, user_data}
use Rattle.mov_model.specs.Carried.{Changes, steps}
use Rattle.mov_model.specs.Cuts.{RowTable, row_tables, step_tables}
use Rattle.mov_model.specs.Movie.{Movie, movie_of}
use Rattle.mov_model.specs.New.{edit_cuts, ends_file, fill, gaps_of, grown, is_open, kids_at, pieces_of, whole_pieces}
use Rattle.mov_model.specs.Support.{Readable}
use Rattle.mov_model.specs.WideCuts.{wide_cuts_at, wide_kid_cuts}
use Rattle.mov_model.proofs.Again.{kids, kids_bytes, kids_read}
use Rattle.mov_model.proofs.Kids.{KidOk, kids_ok}
use Rattle.mov_model.proofs.Steps.{AtomFine, StepFine, low_prefix}
use Rattle.mov_model.proofs.Why.{kids_supported}
use Rattle.sample_tables.proofs.Moved.{long_rows}
use Rattle.sample_tables.specs.Tables.{count, rows}
use Rattle.mov_plan.specs.Shapes.{ArePlain}
use Rattle.mov_plan.proofs.Among.{HeadsPlaced, all_among, blended, piece_heads}
use Rattle.mov_plan.proofs.Rowed.{wide_row}
use Rattle.mov_plan.proofs.Laying.{Bare, carried_bare, kept_is, kids_are, kids_lie, read_bare, whole_placed, whole_rows}
use Rattle.mov_plan.proofs.Lying.{Lies, Met, all_two, lie_first, lie_then, met_walk, numbers_take}
use Rattle.mov_plan.proofs.Mixed.{kid_rows, mixed}
use Rattle.mov_plan.proofs.Plain.{carried_plain, read_plain}
use Rattle.mov_plan.proofs.Stepping.{no_tables, order_high, order_steps, walk_order}
use Rattle.mov_plan.proofs.WideSteps.{StepIs, heads_high, heads_low, law_head, law_heads, step_is, steps_mixed}

-- the headers in an atom of moov at a place
abbrev pub kid_heads : ℕ → Chunk → List Cut
kid_heads at c = flat_map law_heads (walk format 5 moov at c)

pub no_heads : (at : ℕ) (c : Chunk) → is c (codes "trak") ≡ false → kid_heads at c ≡ []
unfolding walk
no_heads at c n = rw n refl

-- chunks that are no tracks have none
skip_heads : (at : ℕ) (old rest : List Chunk) → AllByRecursion (λ c. is c (codes "trak") ≡ false) old → along kid_heads at (old ++ rest) ≡ along kid_heads (at + length (spell_all old)) rest
skip_heads at [] rest n = ap (λ (k : ℕ). along kid_heads k rest) (omega arith)
skip_heads at (c ∷ old) rest n =
    ap (λ (x : List Cut). x ++ along kid_heads (at + length (spell c)) (old ++ rest)) (no_heads at c n.0)
    ∙ skip_heads (at + length (spell c)) old rest n.1
    ∙ ap (λ (k : ℕ). along kid_heads k rest) (omega (arith, length-append (spell c) (spell_all old)))

module _ (f : ℕ → ℕ) (b : List ℕ) where
  abbrev g : RowTable → Cut
  g = wide_row f b

  -- ---- the rows of a step

  rows_same : (w : Width) (at : ℕ) (c : Chunk) → 8 + w.bytes * count c ≤ length c.body → take (length c.body) (drop (body_at at c) b) ≡ c.body → rows w c ≡ numbers w (count c) (drop (body_at at c + 8) b)
  rows_same w at c long met =
      let from = body_at at c in
      let n = length c.body in
      let k = count c in
      let whole : 8 + (n - 8) ≡ n = omega (arith, long) in
      let tail : drop 8 c.body ≡ take (n - 8) (drop (from + 8) b)
      = ap (drop 8) (sym met) ∙ ap (λ (j : ℕ). drop 8 (take j (drop from b))) (sym whole) ∙ drop-take 8 (n - 8) (drop from b) ∙ ap (take (n - 8)) (drop-drop 8 from b) in
      ap (numbers w k) tail ∙ numbers_take w k (n - 8) (drop (from + 8) b) (omega (arith, long))

  step_other : (p : Place) (at : ℕ) (c : Chunk) → (wide_cuts_at f p at c None ≡ law_head p at c None ++ map g (step_tables (chunk_at p at c))) → StepIs g f (chunk_at p at c)
  step_other p at c h = go (opens p c.id (take 4 c.body)) refl
    where
      go : (o : Option Place) → opens p c.id (take 4 c.body) ≡ o → wide_cuts_at f p at c o ≡ law_head p at c o ++ map g (step_tables (chunk_at p at c))
      go None e = h
      go (Some q) e = ap (λ (x : List RowTable). law_head p at c (Some q) ++ map g x) (sym (no_tables p q at c e))

  step_wide : (s : Step Place) → StepFine s → Met b s → StepIs g f s
  step_wide (chunk_at stbl at c) fine met =
      step_is g f stbl at c
      (λ e. ap (λ (ps : List ℕ). record { at = body_at at c + 8; len = 4 * count c; bytes = spelled be64 (map f ps) }) (sym (rows_same be32 at c ((long_rows c fine.1.0).0 e) met)))
      (λ n e. ap (λ (ps : List ℕ). record { at = body_at at c + 8; len = 8 * count c; bytes = spelled be64 (map f ps) }) (sym (rows_same be64 at c ((long_rows c fine.1.0).1 e) met)))
  step_wide (chunk_at file at c) fine met = step_other file at c refl
  step_wide (chunk_at user_data at c) fine met = step_other user_data at c refl
  step_wide (chunk_at moov at c) fine met = step_other moov at c refl
  step_wide (chunk_at trak at c) fine met = step_other trak at c refl
  step_wide (chunk_at mdia at c) fine met = step_other mdia at c refl
  step_wide (chunk_at minf at c) fine met = step_other minf at c refl
  step_wide (chunk_at dinf at c) fine met = step_other dinf at c refl
  step_wide (end_at p at stop) fine met = refl

  -- ---- an atom of moov

  -- Its headers stand in it, and among its rows they are the spans of the definitions.
  pub record KidWide (at : ℕ) (c : Chunk) : Type 0 where
    pub blend : mixed g (kid_heads at c) (kid_rows at c) ≡ wide_kid_cuts f at c
    pub begins : AllByRecursion (λ (h : Cut). (at ≤ h.at) × (h.at < at + length (spell c))) (kid_heads at c)

  kid_wide : (at : ℕ) (c : Chunk) → KidOk c → IsBytes c.body → Lies b at (spell c) → KidWide at c
  kid_wide at c k bytes lies =
      let ss = walk format 5 moov at c in
      let end = at + length (spell c) in
      let fine = sound_to format AtomFine low_prefix 5 moov at c k.1.0 in
      let order = walk_order 5 moov at c bytes fine in
      record {
        blend = steps_mixed g f at end ss order (all_two StepFine (Met b) (StepIs g f) step_wide ss fine (met_walk b 5 moov at c bytes lies));
        begins = all_two (λ (h : Cut). at ≤ h.at) (λ (h : Cut). h.at < end) (λ (h : Cut). (at ≤ h.at) × (h.at < end)) (λ h x y. (x, y)) (kid_heads at c)
            (heads_low at ss (order_steps at end ss order)) (heads_high end ss (order_high at end ss order));
      }

  -- of each, at its place
  abbrev AllAlong : ℕ → List Chunk → Type 0
  AllAlong at [] = Unit {0}
  AllAlong at (c ∷ cs) = KidWide at c × AllAlong (at + length (spell c)) cs

  kids_wide : (at : ℕ) (cs : List Chunk) → AllByRecursion KidOk cs → AllByRecursion (λ c. IsBytes c.body) cs → Lies b at (spell_all cs) → AllAlong at cs
  kids_wide at [] k bytes lies = tt
  kids_wide at (c ∷ cs) k bytes lies =
      (kid_wide at c k.0 bytes.0 (lie_first b at (spell c) (spell_all cs) lies), kids_wide (at + length (spell c)) cs k.1 bytes.1 (lie_then b at (spell c) (spell_all cs) lies))

  skip_along : (at : ℕ) (old rest : List Chunk) → AllAlong at (old ++ rest) → AllAlong (at + length (spell_all old)) rest
  skip_along at [] rest h = subst (λ (k : ℕ). AllAlong k rest) (omega arith) h
  skip_along at (c ∷ old) rest h = subst (λ (k : ℕ). AllAlong k rest) (omega (arith, length-append (spell c) (spell_all old))) (skip_along (at + length (spell c)) old rest h.1)

  -- ---- pieces

  -- of each atom that is copied, at its place
  abbrev AllCopied : ℕ → List Piece → Type 0
  AllCopied at [] = Unit {0}
  AllCopied at (copied c ∷ ps) = KidWide at c × AllCopied (at + length (spell c)) ps
  AllCopied at (replaced lead slot now last ∷ ps) = AllCopied (at + length (spell_all lead ++ slot)) ps

  abbrev heads : ℕ → List Piece → List Cut
  heads at ps = piece_heads g kid_heads at ps

  closed_copied : (s : Slot) (ps : List Piece) (p at : ℕ) → at ≡ p + length (begun_bytes s) → AllCopied at ps → AllCopied p (closed false s ++ ps)
  closed_copied shut ps p at e h = subst (λ (k : ℕ). AllCopied k ps) (omega (arith, e)) h
  closed_copied (begun lead slot now) ps p at e h = subst (λ (k : ℕ). AllCopied k ps) e h

  closed_heads : (s : Slot) (ps : List Piece) (p at : ℕ) → at ≡ p + length (begun_bytes s) → heads p (closed false s ++ ps) ≡ heads at ps
  closed_heads shut ps p at e = ap (λ (k : ℕ). heads k ps) (omega (arith, e))
  closed_heads (begun lead slot now) ps p at e = ap (λ (k : ℕ). heads k ps) (sym e)

  abbrev UnitsTold : ℕ → ℕ → List Piece → List Chunk → Type 0
  UnitsTold p at ps cs = AllCopied p ps × (heads p ps ≡ along kid_heads at cs)

  -- a chunk that is copied, behind a unit or none
  copied_told : (s : Slot) (c : Chunk) (ps : List Piece) (cs : List Chunk) (p at : ℕ) → at ≡ p + length (begun_bytes s) → KidWide at c → UnitsTold (at + length (spell c)) (at + length (spell c)) ps cs
      → UnitsTold p at (closed false s ++ copied c ∷ ps) (c ∷ cs)
  copied_told s c ps cs p at e h t =
      (closed_copied s (copied c ∷ ps) p at e (h, t.0), closed_heads s (copied c ∷ ps) p at e ∙ ap (λ (x : List Cut). kid_heads at c ++ x) t.1)

  units_told : (s : Slot) (xs : List Cell) (p at : ℕ) → ArePlain xs → Bare xs → at ≡ p + length (begun_bytes s) → AllAlong at (flat_map was xs) → UnitsTold p at (units s xs) (flat_map was xs)
  unfolding units
  units_told shut [] p at plain bare e h = (tt, refl)
  units_told (begun lead slot now) [] p at plain bare e h = (tt, refl)
  units_told s (kept c ∷ xs) p at plain bare e h =
      let next = at + length (spell c) in
      let t = units_told shut xs next next plain.1 bare (omega arith) h.1 in
      subst (λ (ps : List Piece). UnitsTold p at (closed false s ++ ps) (c ∷ flat_map was xs)) (sym (kept_is (lacks_pad c) (not (is_empty xs)) c (λ t. units t xs) plain.0))
      (copied_told s c (units shut xs) (flat_map was xs) p at e h.0 t)
  units_told shut (gap c ∷ xs) p at plain bare e h =
      let next = at + length (spell c) in
      let t = units_told shut xs next next plain.2 bare.1 (omega arith) h.1 in
      subst (λ (ps : List Piece). UnitsTold p at ps (c ∷ flat_map was xs)) (sym (kept_is (lacks_pad c) (not (is_empty xs)) c (λ t. units t xs) plain.0))
      (copied_told shut c (units shut xs) (flat_map was xs) p at e h.0 t)
  units_told (begun lead slot now) (gap c ∷ xs) p at plain bare e h =
      let next = at + length (spell c) in
      let t = units_told (begun lead (slot ++ spell c) now) xs p next plain.2 bare.1 (omega (arith, e, length-append (spell_all lead) slot, length-append (spell_all lead) (slot ++ spell c), length-append slot (spell c))) h.1 in
      (t.0, t.1 ∙ ap (λ (x : List Cut). x ++ along kid_heads next (flat_map was xs)) (sym (no_heads at c bare.0)))
  units_told shut (edited old new ∷ xs) p at plain bare e h =
      let next = at + length (spell_all old) in
      let t = units_told (begun [] (spell_all old) new) xs p next plain bare.1 (omega (arith, e)) (skip_along at old (flat_map was xs) h) in
      (t.0, t.1 ∙ sym (skip_heads at old (flat_map was xs) bare.0))
  units_told (begun lead slot now) (edited old new ∷ xs) p at plain bare e h =
      let next = at + length (spell_all old) in
      let t = units_told (begun lead (slot ++ spell_all old) (now ++ new)) xs p next plain bare.1 (omega (arith, e, length-append (spell_all lead) slot, length-append (spell_all lead) (slot ++ spell_all old), length-append slot (spell_all old))) (skip_along at old (flat_map was xs) h) in
      (t.0, t.1 ∙ sym (skip_heads at old (flat_map was xs) bare.0))

  grown_copied : (more : List ℕ) (at : ℕ) (ps : List Piece) → LastOnly ps → AllCopied at ps → AllCopied at (grown more ps)
  grown_copied more at [] l h = tt
  grown_copied more at (copied c ∷ ps) l h = (h.0, grown_copied more (at + length (spell c)) ps l h.1)
  grown_copied more at (replaced lead slot now true ∷ ps) l h = subst (λ (qs : List Piece). AllCopied (at + length (spell_all lead ++ (slot ++ more))) qs) (sym (l.0 refl)) tt
  grown_copied more at (replaced lead slot now false ∷ ps) l h = grown_copied more (at + length (spell_all lead ++ slot)) ps l.1 h

  grown_heads : (more : List ℕ) (at : ℕ) (ps : List Piece) → LastOnly ps → heads at (grown more ps) ≡ heads at ps
  grown_heads more at [] l = refl
  grown_heads more at (copied c ∷ ps) l = ap (λ (x : List Cut). kid_heads at c ++ x) (grown_heads more (at + length (spell c)) ps l)
  grown_heads more at (replaced lead slot now true ∷ ps) l =
      let F : List Piece → Type 0 = λ qs. heads (at + length (spell_all lead ++ (slot ++ more))) qs ≡ heads (at + length (spell_all lead ++ slot)) qs in
      subst F (sym (l.0 refl)) refl
  grown_heads more at (replaced lead slot now false ∷ ps) l = grown_heads more (at + length (spell_all lead ++ slot)) ps l.1

  copied_placed : (at : ℕ) (ps : List Piece) → AllCopied at ps → HeadsPlaced g kid_heads at ps
  copied_placed at [] h = tt
  copied_placed at (copied c ∷ ps) h = (h.0.begins, copied_placed (at + length (spell c)) ps h.1)
  copied_placed at (replaced lead slot now last ∷ ps) h = copied_placed (at + length (spell_all lead ++ slot)) ps h

  copied_cuts : (fill : Fill) (at : ℕ) (ps : List Piece) → AllCopied at ps → cuts_with (λ at c. mixed g (kid_heads at c) (kid_rows at c)) fill at ps ≡ cuts_with (wide_kid_cuts f) fill at ps
  copied_cuts fill at [] h = refl
  copied_cuts fill at (copied c ∷ ps) h =
      let next = at + length (spell c) in
      ap (λ (x : List Cut). x ++ cuts_with (λ at c. mixed g (kid_heads at c) (kid_rows at c)) fill next ps) h.0.blend
      ∙ ap (λ (x : List Cut). wide_kid_cuts f at c ++ x) (copied_cuts fill next ps h.1)
  copied_cuts fill at (replaced lead slot now last ∷ ps) h =
      ap (λ (x : List Cut). cut_of fill at lead slot now last ∷ x) (copied_cuts fill (at + length (spell_all lead ++ slot)) ps h)

  -- ---- of a supported movie

  module _ (bytes : IsBytes b) (sup : Readable b) (e : Changes) where
    abbrev m : Movie
    m = movie_of b

    abbrev ks : List Chunk
    ks = kids b bytes sup

    along_kids : AllAlong (kids_at m e) ks
    along_kids = kids_wide (kids_at m e) ks (kids_ok ks (kids_supported b sup)) (kids_bytes b bytes sup) (kids_lie b bytes sup e)

    told : UnitsTold (kids_at m e) (kids_at m e) (pieces_of m e) ks
    told =
        let xs = carried (steps e) (map cell_of ks) in
        let t = units_told shut xs (kids_at m e) (kids_at m e) (carried_plain (steps e) (map cell_of ks) (read_plain ks (kids_read b bytes sup).0)) (carried_bare e (map cell_of ks) (read_bare ks)) (omega arith)
        (subst (AllAlong (kids_at m e)) (sym (kids_are b bytes sup e)) along_kids) in
        subst (UnitsTold (kids_at m e) (kids_at m e) (pieces_of m e)) (kids_are b bytes sup e) t

    whole_copied : AllCopied (kids_at m e) (whole_pieces m e)
    whole_copied = go (is_open m e)
      where
        go : (t : Bool) → AllCopied (kids_at m e) (cond t (grown (spell_all (gaps_of m.behind)) (pieces_of m e)) (pieces_of m e))
        go true = grown_copied (spell_all (gaps_of m.behind)) (kids_at m e) (pieces_of m e) (Rattle.mov_plan.proofs.Laying.last b bytes sup e) told.0
        go false = told.0

    -- the headers are those of the atoms that are copied
    whole_heads : heads (kids_at m e) (whole_pieces m e) ≡ along kid_heads (kids_at m e) ks
    whole_heads = go (is_open m e) ∙ told.1
      where
        go : (t : Bool) → heads (kids_at m e) (cond t (grown (spell_all (gaps_of m.behind)) (pieces_of m e)) (pieces_of m e)) ≡ heads (kids_at m e) (pieces_of m e)
        go true = grown_heads (spell_all (gaps_of m.behind)) (kids_at m e) (pieces_of m e) (Rattle.mov_plan.proofs.Laying.last b bytes sup e)
        go false = refl

    -- The slots of the units among them and the rows are the spans of the edit behind the header.
    pub slots_blended : mixed g (all_among (edit_cuts m e) (along kid_heads (kids_at m e) ks)) (row_tables b) ≡ cuts_with (wide_kid_cuts f) (fill (ends_file m e)) (kids_at m e) (whole_pieces m e)
    slots_blended =
        let ps = whole_pieces m e in
        ap (λ (hs : List Cut). mixed g (all_among (edit_cuts m e) hs) (row_tables b)) (sym whole_heads)
        ∙ ap (mixed g (all_among (edit_cuts m e) (heads (kids_at m e) ps))) (sym (whole_rows b bytes sup e))
        ∙ blended g kid_heads (fill (ends_file m e)) (kids_at m e) ps (whole_placed b bytes sup e) (copied_placed (kids_at m e) ps whole_copied)
        ∙ copied_cuts (fill (ends_file m e)) (kids_at m e) ps whole_copied
