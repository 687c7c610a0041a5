-- The new file after an edit of fields and names is the old one with the spans of one ascending list replaced, the tables among them.
use Rattle.std.proofs.Common.{◌≡◌, ℕ, ◌+◌, ◌-◌, ◌^◌, ◌<◌, ◌≤◌, Bool, true, false, cond, ltb, List, [], ◌∷◌, ◌++◌, length, map, None, refl, sym, ap, subst, ◌∙◌, append_assoc, arith, inl, inr}
use Rattle.std.specs.Prelude.{Some, ◌⊎◌, ◌&&◌}
use Rattle.std.specs.Str.{bytes_eq}
use Rattle.std.specs.List.{flat_map, list_any, AllByRecursion}
use Rattle.std.proofs.lemmas.List.{append-nil, length-append, length-map}
use Rattle.me_bytes.specs.Bytes.{IsBytes}
use Rattle.container_model.specs.Chunk.{riff, Chunk, spell, spell_all}
use Rattle.container_model.specs.Items.{is_nil}
use Rattle.container_model.specs.Splice.{Cut, end_of, splice, Ascend, shift, Outside}
use Rattle.container_model.specs.Stood.{Stood}
use Rattle.container_model.specs.Tables.{Table, table_of}
use Rattle.container_model.specs.Units.{Cell, kept, gap, edited, shut, units, live, cuts}
use Rattle.container_model.proofs.Copied.{Moves_as_one, spell_some}
use Rattle.container_model.proofs.Goes.{Block, wider}
use Rattle.container_model.proofs.Stood.{renew_at}
use Rattle.container_model.proofs.Units.{spell_all-append}
use Rattle.container_model.proofs.Written.{renewed_length}
use Rattle.carrier_model.proofs.Gaps.{places_put}
use Rattle.carrier_model.specs.Info.{is_padding}
use Rattle.carrier_model.specs.Names.{is_name, name_cells, nth_name, put_name, put_names, some_head}
use Rattle.carrier_model.specs.RiffForm.{fill_of, pad_cut, with_size}
use Rattle.opendml_index.specs.Index.{How, move}
use Rattle.avi_model.specs.After.{Changes, children_after, goes, joined, joined_file, list_cuts, pad_after}
use Rattle.avi_model.specs.Avi.{Avi, avi_of, behind, hdrls, inner, old_indexes, spell_avi}
use Rattle.avi_model.specs.Index.{base, indexes, renumbered, write_index, write_old, writes}
use Rattle.avi_model.specs.JoinedSplices.{IsJoinedSplice, after_cuts, is_behind, joined_cuts, old_list_cuts}
use Rattle.avi_model.specs.Named.{Names, Site, cell_of, ends_file, ends_list, hdrl_cuts, hdrl_named, hdrl_site, list_pad, list_size, name_cuts, named, new_names, riff_of, sites_in, strl_cuts, strl_fill, strl_named, strl_pieces}
use Rattle.avi_model.specs.NewFile.{cut_of_write, new_cells, put_cuts, size_cut, table_cuts}
use Rattle.avi_model.specs.Support.{Supported}
use Rattle.avi_model.proofs.Among.{Among, among_all}
use Rattle.avi_model.proofs.Children.{AreChildren}
use Rattle.avi_model.proofs.Composed.{Beside, composed, composed_ascends, composed_shifts, cut_old, old_ascend, out_both}
use Rattle.avi_model.proofs.Fit.{FitsBy}
use Rattle.avi_model.proofs.Frames.{others_end, over}
use Rattle.avi_model.proofs.JoinedCuts.{chunks_again, lists_same, named_long, names_same, size_stays}
use Rattle.avi_model.proofs.JoinedEdited.{joined_again}
use Rattle.avi_model.proofs.JoinedGoes.{children, lists_ascend, lists_block}
use Rattle.avi_model.proofs.JoinedIs.{Grows, joined_laid}
use Rattle.avi_model.proofs.JoinedKept.{numbers_spliced}
use Rattle.avi_model.proofs.JoinedLaid.{hdrls_still}
use Rattle.avi_model.proofs.JoinedSpliced.{avi_parts, head_bytes, names_spliced}
use Rattle.avi_model.proofs.Merged.{AllApart, ApartFrom, GoesAsOne, Level, Real, all_low, first_shifts, merged, merged_ascends, merged_shifts, put_both, rigid_apart}
use Rattle.avi_model.proofs.Moves.{index_rests, old_fine}
use Rattle.avi_model.proofs.NamesHdrl.{FirstHdrl, KeptAt, first_hdrl, hdrl_kept, units_clear}
use Rattle.avi_model.proofs.NamesSpliced.{Splices, hdrl_splices}
use Rattle.avi_model.proofs.OneSplice.{AllReal, Fresh, both_real, first_of_low, fresh_cells, pad_real, raise, real_new, real_settled, sized, units_real}
use Rattle.avi_model.proofs.Read.{renewed_avi}
use Rattle.avi_model.proofs.Respelled.{list_type}
use Rattle.avi_model.proofs.Sound.{index_bytes, old_bytes}
use Rattle.avi_model.proofs.StreamsGo.{hdrl_block}
use Rattle.avi_model.proofs.Tabled.{all_tables, tables_ascend, tables_spliced}

-- ---- each span of the names replaces bytes, or brings some

fresh_real : (xs : List Cell) → Fresh xs → AllReal xs
fresh_real [] h = tt
fresh_real (kept c ∷ xs) h = fresh_real xs h
fresh_real (gap c ∷ xs) h = fresh_real xs h
fresh_real (edited old now ∷ xs) h = absurd h

one_more : (x : Cell) (xs ys : List Cell) → Fresh (x ∷ xs) → AllReal ys → AllReal (x ∷ ys)
one_more (kept c) xs ys h g = g
one_more (gap c) xs ys h g = g
one_more (edited old now) xs ys h g = absurd h

but_one : (x : Cell) (xs : List Cell) → Fresh (x ∷ xs) → Fresh xs
but_one (kept c) xs h = h
but_one (gap c) xs h = h
but_one (edited old now) xs h = absurd h

real_put : (c : Chunk) (cs : List Chunk) (xs : List Cell) → Fresh xs → AllReal (put_name (edited [] (c ∷ cs)) xs)
real_put c cs [] h = (omega arith, tt)
real_put c cs (x ∷ xs) h = go (some_head (x ∷ xs)) (real_put c cs xs (but_one x xs h))
  where
    go : (t : Bool) → AllReal (put_name (edited [] (c ∷ cs)) xs) → AllReal (cond t (x ∷ put_name (edited [] (c ∷ cs)) xs) (edited [] (c ∷ cs) ∷ (x ∷ xs)))
    go true g = one_more x xs (put_name (edited [] (c ∷ cs)) xs) h g
    go false g = (omega arith, fresh_real (x ∷ xs) h)

real_names : (new : List Chunk) (xs : List Cell) → Fresh xs → AllReal (name_cells new xs)
real_names new xs h = go (list_any is_name (flat_map live xs)) new
  where
    put : (new : List Chunk) → AllReal (put_names new xs)
    put [] = fresh_real xs h
    put (c ∷ cs) = real_put c cs xs h

    go : (t : Bool) (new : List Chunk) → AllReal (cond t (Rattle.carrier_model.specs.Cells.settle_cells is_name (nth_name new) 0 xs) (put_names new xs))
    go true new = real_settled is_name (nth_name new) 0 xs h
    go false new = put new

strl_real : (e : Names) (s : Site) → AllByRecursion Real (strl_cuts e s)
strl_real e s =
    let new = new_names e s.stream in
    let xs = map cell_of (Rattle.carrier_model.specs.Info.list_run s.chunk).chunks in (
      omega arith,
      both_real (cuts (strl_fill s.ends s.chunk) (s.at + 12) (strl_pieces new s.chunk)) (list_pad s (strl_named s.ends new s.chunk))
          (units_real (strl_fill s.ends s.chunk) (s.at + 12) shut (name_cells new xs) tt (real_names new xs (fresh_cells (Rattle.carrier_model.specs.Info.list_run s.chunk).chunks)))
          (pad_real (s.at + 8 + length s.chunk.body) s.chunk.pad (strl_named s.ends new s.chunk).pad),
    )

strls_real : (e : Names) (ss : List Site) → AllByRecursion Real (flat_map (strl_cuts e) ss)
strls_real e [] = tt
strls_real e (s ∷ ss) = both_real (strl_cuts e s) (flat_map (strl_cuts e) ss) (strl_real e s) (strls_real e ss)

hdrl_real : (e : Names) (s : Site) → AllByRecursion Real (hdrl_cuts e s)
hdrl_real e s =
    (omega arith, both_real (flat_map (strl_cuts e) (sites_in e s)) (list_pad s (hdrl_named e s.ends s.chunk)) (strls_real e (sites_in e s)) (pad_real (s.at + 8 + length s.chunk.body) s.chunk.pad (hdrl_named e s.ends s.chunk).pad))

old_real : (a m n : ℕ) (ds : List Cut) → AllByRecursion Real ds → AllByRecursion Real (map (cut_old a m n) ds)
old_real a m n [] h = tt
old_real a m n (d ∷ ds) h = (h.0, old_real a m n ds h.1)

abbrev first_at : List Cut → ℕ
first_at [] = 0
first_at (c ∷ cs) = c.at

-- ---- the spans in the file with the numbers

module _ (o : List ℕ) (bytes : IsBytes o) (s : Supported o) (e : Changes) where
  abbrev a : Avi
  a = avi_of o

  abbrev how : How
  how = move (goes (avi_of o) e)

  abbrev b : Avi
  b = renewed_avi (writes (move (goes (avi_of o) e)) o) (avi_of o)

  abbrev nb : Avi
  nb = named (renewed_avi (writes (move (goes (avi_of o) e)) o) (avi_of o)) e.names

  abbrev c1 : List Cut
  c1 = name_cuts (avi_of o) e.names

  abbrev c2 : List Cut
  c2 = list_cuts (avi_of o) e

  old_hdrl : FirstHdrl e.names (ends_file (avi_of o)) 12 (avi_of o).children
  old_hdrl = first_hdrl e.names (ends_file a) 12 12 a.children (children o bytes s e) s.some_hdrl

  -- hdrl with the numbers
  r : FirstHdrl e.names (ends_file (renewed_avi (writes (move (goes (avi_of o) e)) o) (avi_of o))) 12 (renewed_avi (writes (move (goes (avi_of o) e)) o) (avi_of o)).children
  r =
      let some : 0 < length (hdrls b) = omega (arith, s.some_hdrl, ap length (hdrls_still o bytes s e), length-map (hdrls a) (renew_at (writes how o))) in
      first_hdrl e.names (ends_file b) 12 12 b.children (chunks_again o bytes s how e) some

  abbrev last : Bool
  last = ends_file b && is_nil r.rest

  abbrev new : Chunk
  new = hdrl_named e.names last r.hdrl

  -- where it begins, how long it is and was, and how long all chunks are and were
  abbrev from : ℕ
  from = 12 + length (spell_all r.front)

  abbrev x : ℕ
  x = length (spell r.hdrl)

  abbrev y : ℕ
  y = length (spell new)

  abbrev m : ℕ
  m = length (spell_all b.children)

  abbrev n : ℕ
  n = length (spell_all nb.children)

  abbrev site : Site
  site = record { at = from; ends = last; stream = 0; chunk = r.hdrl }

  abbrev cs : List Cut
  cs = hdrl_cuts e.names site

  old_split : m ≡ length (spell_all r.front) + (x + length (spell_all r.rest))
  old_split =
      ap (λ (k : List Chunk). length (spell_all k)) r.is ∙ ap length (spell_all-append r.front (r.hdrl ∷ r.rest))
      ∙ omega (arith, length-append (spell_all r.front) (spell_all (r.hdrl ∷ r.rest)), length-append (spell r.hdrl) (spell_all r.rest))

  new_split : n ≡ length (spell_all r.front) + (y + length (spell_all r.rest))
  new_split =
      ap (λ (k : List Chunk). length (spell_all k)) r.named_is ∙ ap length (spell_all-append r.front (new ∷ r.rest))
      ∙ omega (arith, length-append (spell_all r.front) (spell_all (new ∷ r.rest)), length-append (spell new) (spell_all r.rest))

  grown : x + n ≡ y + m
  grown = omega (arith, old_split, new_split)

  some_old : 0 < x
  some_old = spell_some r.hdrl

  some_new : 0 < y
  some_new = spell_some new

  names_are : c1 ≡ cs
  names_are = sym (names_same o bytes s how e) ∙ ap (λ (ss : List Site). flat_map (hdrl_cuts e.names) ss) r.site ∙ append-nil cs

  same_place : 12 + length (spell_all old_hdrl.front) ≡ from
  same_place =
      let one : first_at c1 ≡ (12 + length (spell_all old_hdrl.front)) + 4 = ap (λ (ss : List Site). first_at (flat_map (hdrl_cuts e.names) ss)) old_hdrl.site in
      let two : first_at c1 ≡ from + 4 = ap first_at names_are in
      omega (arith, one, two)

  -- the spans of the lists of fields, where they stood
  lists_are : old_list_cuts (avi_of o) e ≡ map (cut_old from m n) c2
  lists_are =
      let ma = length (spell_all a.children) in
      let na = length (spell_all (named a e.names).children) in
      let at = 12 + length (spell_all old_hdrl.front) in
      ap (λ (ss : List Site). map (λ (c : Cut). record c { at = cond (is_behind ss c.at) ((c.at + ma) - na) c.at }) c2) old_hdrl.site
      ∙ ap (λ (q : ℕ). map (cut_old q ma na) c2) same_place ∙ ap (λ (q : ℕ). map (cut_old from q na) c2) (sym (renewed_length (writes how o) 12 a.children)) ∙ ap (λ (q : ℕ). map (cut_old from m q) c2) (sym (named_long o bytes s how e))

  block : Block from from (from + x) (from + y) cs
  block = hdrl_block e.names last r.hdrl r.plain r.opens.0 r.opens.1 from from

  splices : Splices from (spell r.hdrl) (spell new) cs
  splices = hdrl_splices e.names last from r.hdrl r.plain r.opens.0 r.opens.1

  inside : AllByRecursion (λ c. from < c.at) cs
  inside = (omega arith, weaken more (all_low (from + 8) (from + x) more (subst (λ (q : ℕ). Ascend q more (from + x)) (omega arith) block.ascend.1)))
    where
      more : List Cut
      more = flat_map (strl_cuts e.names) (sites_in e.names site) ++ list_pad site new

      weaken : (ds : List Cut) → AllByRecursion (λ d. from + 8 ≤ d.at) ds → AllByRecursion (λ d. from < d.at) ds
      weaken [] h = tt
      weaken (d ∷ ds) h = (omega (arith, h.0), weaken ds h.1)

  -- no span of the lists of fields touches it
  beside : AllByRecursion (Beside from y) c2
  beside = subst (AllByRecursion (Beside from y)) (lists_same o bytes s how e) (both (cuts (fill_of (riff_of nb)) 12 (units shut (new_cells nb e.infos))) units_beside (pad (bytes_eq nb.pad (pad_after b e))))
    where
      typed : Rattle.avi_model.specs.Named.is_hdrl new ≡ true
      typed = list_type (Rattle.std.specs.Prelude.codes "hdrl") r.hdrl (Rattle.avi_model.proofs.Children.kids_of e.names last r.hdrl) r.opens.0 ∙ r.typed

      k : KeptAt new (length (spell_all r.front)) (new_cells nb e.infos)
      k = subst (λ (ks : List Chunk). KeptAt new (length (spell_all r.front)) (Rattle.carrier_model.specs.Lists.edit_list_cells Rattle.carrier_model.specs.Info.info Rattle.carrier_model.specs.Info.info_items Rattle.avi_model.specs.NewFile.home e.infos (map cell_of ks))) (sym r.named_is) (hdrl_kept e.infos new typed r.front r.rest)

      units_beside : AllByRecursion (Beside from y) (cuts (fill_of (riff_of nb)) 12 (units shut (new_cells nb e.infos)))
      units_beside =
          subst (λ (xs : List Cell). AllByRecursion (Beside from y) (cuts (fill_of (riff_of nb)) 12 (units shut xs))) (sym k.is)
          (units_clear (fill_of (riff_of nb)) from 12 shut new k.front k.rest (omega (arith, k.long)))

      pad : (t : Bool) → AllByRecursion (Beside from y) (cond t [] (record { at = 8 + length (inner nb.children nb.left); len = length nb.pad; bytes = pad_after b e } ∷ []))
      pad true = tt
      pad false = (inr (omega (arith, new_split, length-append (spell_all nb.children) nb.left)), tt)

      both : (ds : List Cut) → AllByRecursion (Beside from y) ds → AllByRecursion (Beside from y) (pad_cut (8 + length (inner nb.children nb.left)) nb.pad (pad_after b e)) → AllByRecursion (Beside from y) (ds ++ pad_cut (8 + length (inner nb.children nb.left)) nb.pad (pad_after b e))
      both [] h g = g
      both (d ∷ ds) h g = (h.0, both ds h.1 g)

  -- where the spans of the lists end, then and before
  abbrev end : ℕ
  end = 8 + length (inner (named (avi_of o) e.names).children (named (avi_of o) e.names).left) + length (avi_of o).pad

  abbrev to : ℕ
  to = 8 + length (inner (avi_of o).children (avi_of o).left) + length (avi_of o).pad

  far : from + y ≤ end
  far = omega (arith, new_split, named_long o bytes s how e, length-append (spell_all (named a e.names).children) a.left)

  ends : to + n ≡ end + m
  ends =
      omega (
        arith,
        named_long o bytes s how e,
        renewed_length (writes how o) 12 a.children,
        length-append (spell_all (named a e.names).children) a.left,
        length-append (spell_all a.children) a.left,
      )

  -- ---- names and lists together

  joined_is : joined_cuts (avi_of o) e ≡ put_cuts cs (map (cut_old from m n) c2)
  joined_is = ap (λ (ds : List Cut). put_cuts c1 ds) lists_are ∙ ap (λ (ds : List Cut). put_cuts ds (map (cut_old from m n) c2)) names_are

  both_ascend : Ascend 0 (put_cuts cs (map (cut_old from m n) c2)) to
  both_ascend = composed_ascends from x y m n some_old some_new grown cs (spell r.hdrl) (spell new) refl refl splices block.ascend inside end to c2 far ends (lists_ascend o bytes s e) beside

  to_end : to ≤ length o
  to_end = omega (arith, others_end o bytes s how, length-append (inner a.children a.left) a.pad)

  pub joined_ascend : Ascend 0 (joined_cuts (avi_of o) e) (length o)
  joined_ascend = subst (λ (ds : List Cut). Ascend 0 ds (length o)) (sym joined_is) (wider 0 0 to (length o) (put_cuts cs (map (cut_old from m n) c2)) (omega arith) to_end both_ascend)

  -- replaced together, or one after the other
  spliced_both : splice (spell_avi b) (joined_cuts (avi_of o) e) ≡ splice (splice (spell_avi b) c1) c2
  spliced_both =
      let head = head_bytes (length (inner b.children b.left)) in
      let more = b.left ++ (b.pad ++ behind b) in
      let front = head ++ spell_all r.front in
      let rest = spell_all r.rest ++ more in
      let at : 0 + length front ≡ from = omega (arith, length-append head (spell_all r.front)) in
      let old : spell_avi b ≡ front ++ (spell r.hdrl ++ rest)
      = avi_parts b ∙ ap (λ (k : List Chunk). head ++ (spell_all k ++ more)) r.is ∙ ap (λ (z : List ℕ). head ++ (z ++ more)) (spell_all-append r.front (r.hdrl ∷ r.rest)) ∙ regroup head (spell_all r.front) (spell r.hdrl) (spell_all r.rest) more in
      let then : splice (spell_avi b) c1 ≡ front ++ (spell new ++ rest)
      = ap (splice (spell_avi b)) (sym (names_same o bytes s how e)) ∙ names_spliced b e.names (chunks_again o bytes s how e) ∙ ap (λ (k : List Chunk). head ++ (spell_all k ++ more)) r.named_is ∙ ap (λ (z : List ℕ). head ++ (z ++ more)) (spell_all-append r.front (new ∷ r.rest))
      ∙ regroup head (spell_all r.front) (spell new) (spell_all r.rest) more in
      ap (splice (spell_avi b)) joined_is ∙ ap (λ (z : List ℕ). splice z (put_cuts cs (map (cut_old from m n) c2))) old
      ∙ composed from x y m n some_old some_new grown cs (spell r.hdrl) (spell new) refl refl splices block.ascend inside 0 end front rest c2 at (lists_ascend o bytes s e) beside
      ∙ ap (λ (z : List ℕ). splice z c2) (sym then)
    where
      regroup : (h f c k w : List ℕ) → h ++ ((f ++ (c ++ k)) ++ w) ≡ (h ++ f) ++ (c ++ (k ++ w))
      regroup h f c k w = simp append_assoc

  -- they shift a place as one after the other
  pub joined_shifts : (p : ℕ) → Outside (joined_cuts (avi_of o) e) p → shift (joined_cuts (avi_of o) e) p ≡ goes (avi_of o) e p
  joined_shifts p out =
      let u : Outside (put_cuts cs (map (cut_old from m n) c2)) p = subst (λ (ds : List Cut). Outside ds p) joined_is out in
      ap (λ (ds : List Cut). shift ds p) joined_is
      ∙ composed_shifts from x y m n some_old some_new grown cs (spell r.hdrl) (spell new) refl refl splices block.ascend inside block end to c2 far ends (lists_ascend o bytes s e) beside p u
      ∙ ap (λ (ds : List Cut). shift c2 (shift ds p)) (sym names_are)

  pub joined_outside : (p : ℕ) → Outside (name_cuts (avi_of o) e.names) p → Outside (list_cuts (avi_of o) e) (shift (name_cuts (avi_of o) e.names) p) → Outside (joined_cuts (avi_of o) e) p
  joined_outside p u v =
      subst (λ (ds : List Cut). Outside ds p) (sym joined_is)
      (out_both from x y m n some_old some_new grown cs (spell r.hdrl) (spell new) refl refl splices block.ascend inside block p c2 beside (subst (λ (ds : List Cut). Outside ds p) names_are u) (subst (λ (ds : List Cut). Outside c2 (shift ds p)) names_are v))

  joined_real : AllByRecursion Real (joined_cuts (avi_of o) e)
  joined_real = subst (AllByRecursion Real) (sym joined_is) (put_both Real cs (map (cut_old from m n) c2) (hdrl_real e.names site) (old_real from m n c2 lists_real))
    where
      lists_real : AllByRecursion Real c2
      lists_real =
          subst (AllByRecursion Real) (lists_same o bytes s how e)
          (both_real (cuts (fill_of (riff_of nb)) 12 (units shut (new_cells nb e.infos))) (pad_cut (8 + length (inner nb.children nb.left)) nb.pad (pad_after b e)) (units_real (fill_of (riff_of nb)) 12 shut (new_cells nb e.infos) tt (real_new nb e.infos))
          (pad_real (8 + length (inner nb.children nb.left)) nb.pad (pad_after b e)))

  joined_low : AllByRecursion (λ c. 8 ≤ c.at) (joined_cuts (avi_of o) e)
  joined_low =
      subst (AllByRecursion (λ c. 8 ≤ c.at)) (sym joined_is)
      (put_both (λ c. 8 ≤ c.at) cs (map (cut_old from m n) c2) (names cs inside)
      (lists (map (cut_old from m n) c2) (all_low 12 to (map (cut_old from m n) c2) (old_ascend from x y m n some_old some_new grown 12 12 end to c2 far ends (inl (omega arith, omega arith)) (lists_block o bytes s e).ascend beside))))
    where
      names : (ds : List Cut) → AllByRecursion (λ c. from < c.at) ds → AllByRecursion (λ c. 8 ≤ c.at) ds
      names [] h = tt
      names (d ∷ ds) h = (omega (arith, h.0), names ds h.1)

      lists : (ds : List Cut) → AllByRecursion (λ c. 12 ≤ c.at) ds → AllByRecursion (λ c. 8 ≤ c.at) ds
      lists [] h = tt
      lists (d ∷ ds) h = (omega (arith, h.0), lists ds h.1)

  -- ---- with the tables

  module _ (small : length (inner (children_after (renewed_avi (writes (move (goes (avi_of o) e)) o) (avi_of o)) e) (avi_of o).left) < 2 ^ 32) (grows : Grows o bytes s e)
      (fit : FitsBy (joined (renewed_avi (writes (move (goes (avi_of o) e)) o) (avi_of o)) e) (goes (avi_of o) e) o (spell_avi (joined (renewed_avi (writes (move (goes (avi_of o) e)) o) (avi_of o)) e))) where
    abbrev Free : ℕ → Type 0
    Free p = Outside (name_cuts (avi_of o) e.names) p × Outside (list_cuts (avi_of o) e) (shift (name_cuts (avi_of o) e.names) p)

    abbrev tables : List Cut
    tables = table_cuts (move (goes (avi_of o) e)) o

    abbrev all : List Cut
    all = joined_cuts (avi_of o) e

    -- a chunk that goes as one keeps clear of the spans
    clear_of : (c : Cut) (head k : ℕ) → c.at ≡ head + 8 → end_of c ≡ head + k → 8 ≤ k → ((i : ℕ) → i < k → Free (head + i) × (goes (avi_of o) e (head + i) ≡ goes (avi_of o) e head + i)) → AllByRecursion (ApartFrom c) all
    clear_of c head k at last long g = turn all (rigid_apart 0 (length o) head k (goes a e head) all joined_ascend (omega (arith, long)) joined_real as_one)
      where
        as_one : GoesAsOne (joined_cuts (avi_of o) e) head k (goes (avi_of o) e head)
        as_one i lt = let z = g i lt in let out = joined_outside (head + i) z.0.0 z.0.1 in (out, joined_shifts (head + i) out ∙ z.1)

        turn : (ds : List Cut) → AllByRecursion (λ d. (head + k ≤ d.at) ⊎ (end_of d ≤ head)) ds → AllByRecursion (ApartFrom c) ds
        turn [] h = tt
        turn (d ∷ ds) h = (one h.0, turn ds h.1)
          where
            one : (head + k ≤ d.at) ⊎ (end_of d ≤ head) → (end_of c ≤ d.at) ⊎ (end_of d ≤ c.at)
            one (inl l) = inl (omega (arith, l, last))
            one (inr l) = inr (omega (arith, l, at))

    index_at : (t : Table) → Among t (indexes o) → Rattle.avi_model.proofs.Pieces.Rests o (spell_avi (joined b e)) (goes (avi_of o) e) Free (joined_laid o bytes s e small grows).order t
    index_at t i = index_rests o bytes s (goes a e) Free (joined b e) (joined_laid o bytes s e small grows) fit t i

    pub tables_apart : AllApart (table_cuts (move (goes (avi_of o) e)) o) (joined_cuts (avi_of o) e)
    tables_apart = all_tables o bytes s how (λ c. AllByRecursion (ApartFrom c) all) index old
      where
        index : (t : Table) → Among t (indexes o) → AllByRecursion (ApartFrom (cut_of_write (write_index (move (goes (avi_of o) e)) t))) (joined_cuts (avi_of o) e)
        index t i = let q = index_at t i in clear_of (cut_of_write (write_index how t)) q.head (8 + length t.body) q.at_is (omega (arith, q.at_is, index_bytes o bytes s how t i)) (omega arith) (λ k lt. q.rigid k lt)

        old : (z : Stood) → Among z (old_indexes (avi_of o)) → AllByRecursion (ApartFrom (cut_of_write (write_old (move (goes (avi_of o) e)) (base o) (table_of z)))) (joined_cuts (avi_of o) e)
        old z i =
            let facts = joined_laid o bytes s e small grows in
            let moves = among_all (Moves_as_one (goes a e) Free) (old_indexes a) facts.olds.1 z i in
            let k = Rattle.avi_model.proofs.Lies.body_end z (old_fine o bytes s (goes a e) Free (joined b e) facts fit z i).head in
            clear_of (cut_of_write (write_old how (base o) (table_of z))) z.at (8 + length z.chunk.body) refl (omega (arith, old_bytes o bytes s how (table_of z))) (omega arith) (λ j lt. moves j (omega (arith, k, lt)))

    tables_level : AllByRecursion Level tables
    tables_level = all_tables o bytes s how Level (λ t i. refl) (λ z i. refl)

    tables_low : AllByRecursion (λ c. 8 ≤ c.at) tables
    tables_low = all_tables o bytes s how (λ c. 8 ≤ c.at) (λ t i. let q = index_at t i in omega (arith, q.at_is)) (λ z i. omega arith)

    low : AllByRecursion (λ c. 8 ≤ c.at) (put_cuts tables all)
    low = put_both (λ c. 8 ≤ c.at) tables all tables_low joined_low

    long : 12 ≤ length o
    long = omega (arith, to_end)

    merged_ascend : Ascend 0 (put_cuts tables all) (length o)
    merged_ascend = merged_ascends (length o) tables all (tables_ascend o bytes s how) joined_ascend tables_apart

    all_ascend : Ascend 0 (after_cuts o e) (length o)
    all_ascend = (omega arith, raise (put_cuts tables all) (length o) low (omega (arith, long)) merged_ascend)

    all_spliced : joined_file o e ≡ splice o (after_cuts o e)
    all_spliced =
        let k = length (inner (children_after a e) a.left) in
        joined_again o bytes s e small ∙ numbers_spliced o bytes s e
        ∙ ap (λ (q : ℕ). with_size riff q (splice (splice (renumbered how o) c1) c2)) (size_stays o bytes s how e)
        ∙ ap (λ (z : List ℕ). with_size riff k (splice (splice z c1) c2)) (over o bytes s how) ∙ ap (with_size riff k) (sym spliced_both)
        ∙ ap (λ (z : List ℕ). with_size riff k (splice z all)) (sym (over o bytes s how) ∙ tables_spliced o bytes s how)
        ∙ ap (with_size riff k) (sym (merged tables o all tables_level (tables_ascend o bytes s how) joined_ascend tables_apart))
        ∙ sized k o (put_cuts tables all) (omega (arith, long)) (first_of_low (put_cuts tables all) low)

    outside_all : (p : ℕ) → Outside (after_cuts o e) p → Outside all p
    outside_all p out = go tables out.1
      where
        one : (c : Cut) (fs : List Cut) → Outside (Rattle.avi_model.specs.NewFile.put_cut c fs) p → Outside fs p
        one c [] u = tt
        one c (d ∷ fs) u = pick (Rattle.std.proofs.Common.leb (end_of c) d.at) u (λ v. one c fs v)
          where
            pick : (t : Bool) → Outside (cond t (c ∷ (d ∷ fs)) (d ∷ Rattle.avi_model.specs.NewFile.put_cut c fs)) p → (Outside (Rattle.avi_model.specs.NewFile.put_cut c fs) p → Outside fs p) → Outside (d ∷ fs) p
            pick true u again = u.1
            pick false u again = (u.0, again u.1)

        go : (ts : List Cut) → Outside (put_cuts ts (joined_cuts (avi_of o) e)) p → Outside (joined_cuts (avi_of o) e) p
        go [] u = u
        go (t ∷ ts) u = go ts (one t (put_cuts ts all) u)

    all_shifts : (p : ℕ) → Outside (after_cuts o e) p → shift (after_cuts o e) p ≡ goes (avi_of o) e p
    all_shifts p out =
        let rest = raise (put_cuts tables all) (length o) low (omega (arith, long)) merged_ascend in
        first_shifts (size_cut (length (inner (children_after a e) a.left))) (length o) (put_cuts tables all) p refl rest
        ∙ merged_shifts (length o) tables all p tables_level (tables_ascend o bytes s how) joined_ascend tables_apart ∙ joined_shifts p (outside_all p out)

    -- The new file is one splice of the old one.
    pub joined_splice : IsJoinedSplice o e (joined_file o e)
    joined_splice = record { spliced = all_spliced; ascend = all_ascend; put = λ p out lt. places_put (after_cuts o e) (length o) p all_ascend out lt ∙ ap Some (all_shifts p out) }
