-- An edit of the lists of fields lays the first form as the laws need it; zeros are laid with it, and what is kept is placed.
use Rattle.std.proofs.Common.{◌≡◌, ℕ, ◌+◌, ◌-◌, ◌^◌, ◌<◌, ◌≤◌, List, [], ◌∷◌, ◌++◌, length, map, take, drop, refl, sym, ap, subst, ◌∙◌, arith}
use Rattle.std.specs.Prelude.{codes}
use Rattle.std.specs.List.{flat_map, AllByRecursion}
use Rattle.std.proofs.lemmas.List.{length-append, length-take}
use Rattle.container_model.specs.Chunk.{spell, spell_all, riff}
use Rattle.container_model.specs.Splice.{Cut, shift, Outside, splice}
use Rattle.container_model.specs.Stood.{Stood, only}
use Rattle.container_model.specs.Written.{Write, written}
use Rattle.container_model.proofs.Codec.{IsBytes}
use Rattle.container_model.proofs.Written.{renewed, length-written, renewed_length}
use Rattle.container_model.proofs.Copied.{Moves_as_one}
use Rattle.container_model.proofs.Stood.{carried_to, only_all}
use Rattle.carrier_model.specs.Info.{is_type, SetsInfo}
use Rattle.avi_model.specs.Avi.{Avi, avi_of, inner, spell_avi, kids, top, hdrls, strls, stream_indexes, is_movi, old_indexes, behind}
use Rattle.opendml_index.specs.Index.{move, blank}
use Rattle.avi_model.specs.Index.{writes, renumbered}
use Rattle.avi_model.specs.Support.{ListEnds, infos, Supported}
use Rattle.avi_model.specs.NewFile.{Items, new_children, laid, edit_cuts, laid_file}
use Rattle.avi_model.proofs.Read.{renewed_avi, others_place}
use Rattle.avi_model.proofs.Walk.{IsRiffHead, Open, kids_all, lists_carried}
use Rattle.avi_model.proofs.Tables.{top_carried, hdrl_apart, movi_carried, first_carried, all_types, olds_carried, streams_carried}
use Rattle.avi_model.proofs.Edit.{laid_readable, laid_kept}
use Rattle.avi_model.proofs.Among.{Among, all_among, among_all, among_only, stood_inside}
use Rattle.avi_model.proofs.Levels.{Ended, top_heads}
use Rattle.avi_model.proofs.Lies.{body_end}
use Rattle.avi_model.proofs.Sound.{ended}
use Rattle.avi_model.proofs.Frames.{opened, readable, alone, same_cuts, ascends, over, again}
use Rattle.avi_model.proofs.Kept.{lists_of, size_written, small_by, ready_by}
use Rattle.std.specs.Int.{w32, to_le_bytes}
use Rattle.carrier_model.specs.RiffForm.{with_size}
use Rattle.avi_model.specs.Kept.{kept_in, kept, placed}
use Rattle.avi_model.proofs.Cuts.{size_same}
use Rattle.avi_model.proofs.Spans.{laid_spliced}
use Rattle.avi_model.proofs.Overlaid.{moved_write, moved_over}
use Rattle.avi_model.proofs.Fit.{Fits, FitsBy}
use Rattle.avi_model.proofs.Past.{past_edit, children_length}
use Rattle.avi_model.proofs.InfosEnd.{infos_laid}
use Rattle.avi_model.proofs.Laid.{IsLaid, ListsStay}
use Rattle.avi_model.proofs.Blanked.{zeros_are, zeros_both, zeros_go}
use Rattle.avi_model.proofs.Lists.{open_ends}
use Rattle.avi_model.proofs.Grows.{edit_grows}
use Rattle.container_model.proofs.Splice.{shift_order}

module _ (o : List ℕ) (bytes : IsBytes o) (s : Supported o) (e : Items) (small : length (inner (new_children (renewed_avi (writes (move (shift (edit_cuts (avi_of o) e))) o) (avi_of o)) e) (avi_of o).left) < 2 ^ 32) where
  abbrev a : Avi
  a = avi_of o

  abbrev cs : List Cut
  cs = edit_cuts (avi_of o) e

  abbrev f : ℕ → ℕ
  f = shift (edit_cuts (avi_of o) e)

  abbrev Free : ℕ → Type 0
  Free p = Outside (edit_cuts (avi_of o) e) p

  abbrev ws : List Write
  ws = writes (move (shift (edit_cuts (avi_of o) e))) o

  abbrev b : Avi
  b = renewed_avi ws a

  abbrev pub after : Avi
  after = laid (renewed_avi (writes (move (shift (edit_cuts (avi_of o) e))) o) (avi_of o)) e

  g : Ended (avi_of o)
  g = ended o bytes s

  op : Rattle.avi_model.proofs.Tables.Opened (avi_of o) e (writes (move (shift (edit_cuts (avi_of o) e))) o)
  op = opened o bytes s (move f) e

  pub new_is : laid_file o e ≡ spell_avi after
  unfolding laid_file
  new_is = ap (λ (x : Avi). spell_avi (laid x e)) (again o bytes s (move f))

  -- ---- the lists of the first form

  abbrev Goes : List Cut → List Stood → List Stood → Type 0
  Goes x xs ys = (ys ≡ map (carried_to (shift x) ws) xs) × AllByRecursion (Moves_as_one (shift x) (λ p. Outside x p)) xs

  hdrls_follow : Goes (edit_cuts (avi_of o) e) (hdrls a) (hdrls after)
  hdrls_follow =
      subst (λ (x : List Cut). Goes x (hdrls a) (hdrls after)) (same_cuts o bytes s (move f) e)
      (first_carried a e ws (only (is_type (codes "hdrl")) (top a)) (only (is_type (codes "hdrl")) (top after)) (top_carried a e ws (is_type (codes "hdrl")) hdrl_apart (all_types a e ws (codes "hdrl") (top a) op.top_heads op.top_types)))

  hdrl_heads : AllByRecursion IsRiffHead (hdrls a)
  hdrl_heads = all_among IsRiffHead (hdrls a) (λ x i. (Rattle.avi_model.proofs.Levels.hdrl_whole a g x i).2.head)

  strls_follow : Goes (edit_cuts (avi_of o) e) (strls a) (strls after)
  strls_follow =
      let k = kids_all f Free ws (hdrls a) hdrl_heads op.hdrl_opens hdrls_follow.1 in (
        ap (λ (xs : List Stood). only (is_type (codes "strl")) (flat_map kids xs)) hdrls_follow.0 ∙ ap (only (is_type (codes "strl"))) k.0 ∙ lists_carried f Free ws (codes "strl") (flat_map kids (hdrls a)) op.hdrl_heads op.hdrl_types,
        only_all (Moves_as_one f Free) (is_type (codes "strl")) (flat_map kids (hdrls a)) k.1,
      )

  pub new_hdrls : length (hdrls after) ≡ length (hdrls a)
  new_hdrls = ap length hdrls_follow.0 ∙ Rattle.std.proofs.lemmas.List.length-map (hdrls a) (carried_to f ws)

  carried_ends : (xs : List Stood) → AllByRecursion IsRiffHead xs → AllByRecursion (Open ws) xs → AllByRecursion ListEnds (map (carried_to f ws) xs)
  carried_ends [] h o = tt
  carried_ends (x ∷ xs) h o = (open_ends f ws x h.0 o.0, carried_ends xs h.1 o.1)

  -- ---- where places go

  goes_past : (q : ℕ) → others_place a ≤ q → Free q × (f q + others_place a ≡ q + others_place after)
  goes_past q le =
      let same_place : others_place b ≡ others_place a = omega (arith, renewed_length ws 12 a.children, length-append (spell_all (renewed ws 12 a.children)) a.left, length-append (spell_all a.children) a.left, length-append (inner (renewed ws 12 a.children) a.left) a.pad, length-append (inner a.children a.left) a.pad) in
      let p = past_edit b e q (omega (arith, same_place, le)) in
      subst (λ (x : List Cut). Outside x q × (shift x q + others_place a ≡ q + others_place after)) (same_cuts o bytes s (move f) e) (p.0, omega (arith, p.1, same_place))

  essence_grows : (m : Stood) → Among m (only is_movi (top a)) → (p : ℕ) → m.at + 8 ≤ p → p < m.at + 8 + length m.chunk.body → p ≤ f p
  essence_grows m i p low high =
      let z = among_only is_movi (top a) m i in
      let size = children_length a e in
      let short = g.readable.small in
      let me = body_end m (among_all IsRiffHead (top a) (top_heads a g) m z.0) in
      let inside = stood_inside 12 a.children m z.0 in
      edit_grows a e p (omega (arith, size, short, length-append (spell_all a.children) a.left)) (omega (arith, size, inside.1, me, high))

  -- An edit of the lists of fields lays the first form.
  pub listed_laid : IsLaid o (shift (edit_cuts (avi_of o) e)) (λ p. Outside (edit_cuts (avi_of o) e) p) (laid (renewed_avi (writes (move (shift (edit_cuts (avi_of o) e))) o) (avi_of o)) e)
  listed_laid = record {
    order = λ p q x y lt. shift_order 0 (length o) cs p q (ascends o bytes s (move f) e) x y (omega arith) lt;
    readable = laid_readable b e (readable o bytes s (move f)) small;
    others_are = refl;
    tail_is = refl;
    streams = subst (λ (x : List Cut). Goes x (stream_indexes a) (stream_indexes after)) (same_cuts o bytes s (move f) e) (streams_carried a e ws op);
    olds = subst (λ (x : List Cut). Goes x (old_indexes a) (old_indexes after)) (same_cuts o bytes s (move f) e) (olds_carried a e ws);
    movis = subst (λ (x : List Cut). Goes x (only is_movi (top a)) (only is_movi (top after))) (same_cuts o bytes s (move f) e) (movi_carried a e ws op);
    past = goes_past;
    grows = essence_grows;
  }

  module _ (sets : SetsInfo e) where
    infos_end : AllByRecursion ListEnds (infos after)
    infos_end = infos_laid b e sets (ready_by o bytes s e small sets (move f)) (Rattle.avi_model.proofs.Fields.lists_end ws 12 a.children (alone o bytes s (move f)) (lists_of o s))

    pub lists_stay : ListsStay o (laid (renewed_avi (writes (move (shift (edit_cuts (avi_of o) e))) o) (avi_of o)) e)
    lists_stay = record {
      hdrls_end = subst (AllByRecursion ListEnds) (sym hdrls_follow.0) (carried_ends (hdrls a) hdrl_heads op.hdrl_opens);
      strls_end = subst (AllByRecursion ListEnds) (sym strls_follow.0) (carried_ends (strls a) (all_among IsRiffHead (strls a) (λ x i. (Rattle.avi_model.proofs.Levels.strl_whole a g x i).2.head)) op.strl_opens);
      infos_end = infos_end;
      hdrls_stay = new_hdrls;
    }

  module _ (fit : Fits o e) where
    abbrev pub fit_after : Type 0
    fit_after = FitsBy after f o (spell_avi after)

    -- what fits of the file that is laid
    pub fits_after : FitsBy (laid (renewed_avi (writes (move (shift (edit_cuts (avi_of o) e))) o) (avi_of o)) e) (shift (edit_cuts (avi_of o) e)) o (spell_avi (laid (renewed_avi (writes (move (shift (edit_cuts (avi_of o) e))) o) (avi_of o)) e))
    fits_after = subst (λ (x : Avi). FitsBy (laid x e) f o (spell_avi (laid x e))) (again o bytes s (move f)) fit

    abbrev zs : List Write
    zs = writes blank o

    abbrev n : List ℕ
    n = spell_avi after

    abbrev to : ℕ → ℕ
    to q = f (q - 8) + 8

    -- the new file with zeros over its numbers is laid from the old one with zeros
    zeros_laid : renumbered blank n ≡ spell_avi (laid (renewed_avi zs a) e)
    zeros_laid =
        let b = renewed_avi ws a in
        let z = renewed_avi zs a in
        let W = map (moved_write to) zs in
        let k = length (inner (new_children b e) a.left) in
        let x = splice (written ws 0 o) cs in
        let is : n ≡ with_size riff k x = laid_spliced b e ∙ ap (λ (c : List Cut). with_size riff k (splice (spell_avi b) c)) (same_cuts o bytes s (move f) e) ∙ ap (λ (y : List ℕ). with_size riff k (splice y cs)) (sym (over o bytes s (move f))) in
        let long : 12 ≤ length n = omega (arith, length-append (spell (Rattle.avi_model.specs.Avi.form_of (laid b e))) (Rattle.avi_model.specs.Avi.behind (laid b e))) in
        let eight : 8 ≤ length x = omega (arith, long, ap length is, length-append (take 4 x) (to_le_bytes w32 k ++ drop 8 x), length-append (to_le_bytes w32 k) (drop 8 x), length-take 4 x, Rattle.std.proofs.lemmas.List.length-drop 8 x) in
        let behind : AllByRecursion (λ w. 8 ≤ w.at) W = all_behind zs in
        let asc = subst (λ (q : ℕ). Rattle.container_model.specs.Splice.Ascend 0 cs q) (sym (length-written ws 0 o)) (ascends o bytes s (move f) e) in
        let both = zeros_both o bytes s f Free after listed_laid fits_after in
        let size : k ≡ length (inner (new_children z e) a.left) = size_same ws a e (alone o bytes s (move f)) ∙ sym (size_same zs a e (alone o bytes s blank)) in
        ap (λ (y : List Write). written y 0 n) (zeros_are o bytes s f Free after listed_laid fits_after) ∙ ap (written W 0) is ∙ size_written W k x eight behind ∙ ap (with_size riff k) (moved_over (written ws 0 o) cs to zs asc (zeros_go o bytes s f Free after listed_laid fits_after))
        ∙ ap (λ (y : List ℕ). with_size riff k (splice y cs)) both ∙ ap (λ (q : ℕ). with_size riff q (splice (written zs 0 o) cs)) size
        ∙ ap (λ (y : List ℕ). with_size riff (length (inner (new_children z e) a.left)) (splice y cs)) (over o bytes s blank)
        ∙ ap (λ (c : List Cut). with_size riff (length (inner (new_children z e) a.left)) (splice (spell_avi z) c)) (sym (same_cuts o bytes s blank e)) ∙ sym (laid_spliced z e)
      where
        all_behind : (vs : List Write) → AllByRecursion (λ w. 8 ≤ w.at) (map (moved_write to) vs)
        all_behind [] = tt
        all_behind (v ∷ vs) = (omega arith, all_behind vs)

    -- Clause 3.
    pub kept_placed : SetsInfo e → kept (laid_file o e) ≡ placed (kept o) e
    kept_placed sets =
        let z = renewed_avi zs a in
        ap kept new_is ∙ ap (λ (y : List ℕ). kept_in (avi_of y)) zeros_laid ∙ laid_kept z e (readable o bytes s blank) (small_by o bytes s e small sets blank) sets (ready_by o bytes s e small sets blank) ∙ ap (λ (x : Avi). placed (kept_in x) e) (sym (again o bytes s blank))
