-- What an edit of fields and names keeps of an AVI file: zeros over the numbers of its tables go with these, first where the names put
-- them and then where the lists of fields do.
use Rattle.std.proofs.Common.{◌≡◌, ℕ, ◌+◌, ◌-◌, ◌^◌, ◌<◌, ◌≤◌, List, [], ◌∷◌, ◌++◌, length, map, take, drop, refl, sym, ap, subst, ◌∙◌, arith, inl, inr}
use Rattle.std.specs.Prelude.{◌⊎◌, codes}
use Rattle.std.specs.Int.{w32, to_le_bytes}
use Rattle.std.specs.List.{flat_map, AllByRecursion}
use Rattle.std.proofs.lemmas.List.{length-append, length-drop, length-take}
use Rattle.me_bytes.specs.Bytes.{IsBytes}
use Rattle.container_model.specs.Chunk.{riff, spell_all}
use Rattle.container_model.specs.Splice.{Cut, splice, Ascend, Outside, shift}
use Rattle.container_model.specs.Stood.{Stood, only}
use Rattle.container_model.specs.Tables.{Table, named as named_table, size_at, table_of}
use Rattle.container_model.specs.Written.{Write, written}
use Rattle.container_model.proofs.Copied.{Moves_as_one}
use Rattle.container_model.proofs.Goes.{wider}
use Rattle.container_model.proofs.Written.{length-written}
use Rattle.carrier_model.specs.Info.{SetsInfo}
use Rattle.carrier_model.specs.RiffForm.{with_size}
use Rattle.opendml_index.specs.Index.{blank, move}
use Rattle.avi_model.specs.After.{Changes, children_after, goes, joined, joined_file, list_cuts}
use Rattle.avi_model.specs.Avi.{Avi, avi_of, behind, essence, has_id, inner, is_movi, kids, old_indexes, others_at, spell_avi, strls, stream_indexes, top}
use Rattle.avi_model.specs.Index.{indexes, named_by, renumbered, streams, writes}
use Rattle.avi_model.specs.KeptAfter.{all_kept, all_kept_in, all_placed}
use Rattle.avi_model.specs.Named.{ends_file, name_cuts, named}
use Rattle.avi_model.specs.Support.{Supported}
use Rattle.avi_model.proofs.Among.{Among, among_all, among_append, among_first, among_flat, among_map, among_only}
use Rattle.avi_model.proofs.Blanked.{zeros_are, zeros_both, zeros_go}
use Rattle.avi_model.proofs.Edit.{Ready, ready_of}
use Rattle.avi_model.proofs.Fields.{lists_end}
use Rattle.avi_model.proofs.Fit.{FitsBy}
use Rattle.avi_model.proofs.Forms.{file_read}
use Rattle.avi_model.proofs.Frames.{again as read_again, alone, over}
use Rattle.avi_model.proofs.JoinedCuts.{chunks_again, joined_readable, lists_same, named_long, names_same, size_stays}
use Rattle.avi_model.proofs.JoinedEdited.{joined_again}
use Rattle.avi_model.proofs.JoinedGoes.{behind_block, lists_ascend, names_ascend, names_block}
use Rattle.avi_model.proofs.JoinedIs.{Grows, joined_laid}
use Rattle.avi_model.proofs.JoinedLaid.{hdrl_small, names_movis, names_olds, names_streams}
use Rattle.avi_model.proofs.JoinedLists.{infos_named}
use Rattle.avi_model.proofs.JoinedNodes.{parts_placed}
use Rattle.avi_model.proofs.JoinedSpliced.{avi_parts, head_bytes, joined_spliced, names_spliced}
use Rattle.avi_model.proofs.Kept.{lists_of, size_written}
use Rattle.avi_model.proofs.Levels.{Ended, further_whole, others_range, top_heads}
use Rattle.avi_model.proofs.Lies.{body_end, kids_heads, kids_inside}
use Rattle.avi_model.proofs.Overlaid.{moved_over, moved_write}
use Rattle.avi_model.proofs.Read.{avi_again, renewed_avi}
use Rattle.avi_model.proofs.Sound.{each_write, ended, holder_of, named_from, named_place}
use Rattle.avi_model.proofs.Walk.{IsRiffHead}

-- writes that go to one place and from there to another
twice : (f g h : ℕ → ℕ) (ws : List Write) → ((q : ℕ) → h q ≡ g (f q)) → map (moved_write h) ws ≡ map (moved_write g) (map (moved_write f) ws)
twice f g h [] e = refl
twice f g h (w ∷ ws) e = ap (λ (q : ℕ). record w { at = q } ∷ map (moved_write h) ws) (e w.at) ∙ ap (λ (x : List Write). record w { at = g (f w.at) } ∷ x) (twice f g h ws e)

module _ (o : List ℕ) (bytes : IsBytes o) (s : Supported o) (e : Changes) where
  abbrev a : Avi
  a = avi_of o

  abbrev c1 : List Cut
  c1 = name_cuts (avi_of o) e.names

  abbrev c2 : List Cut
  c2 = list_cuts (avi_of o) e

  abbrev zs : List Write
  zs = writes blank o

  abbrev b : Avi
  b = renewed_avi (writes (move (goes (avi_of o) e)) o) (avi_of o)

  abbrev z : Avi
  z = renewed_avi (writes blank o) (avi_of o)

  g : Ended (avi_of o)
  g = ended o bytes s

  -- the file with the numbers, and with zeros, as the old one with spans replaced
  abbrev at_size : Avi → List ℕ → List ℕ
  at_size x y = with_size riff (length (inner (children_after x e) x.left)) (splice (splice y (name_cuts (avi_of o) e.names)) (list_cuts (avi_of o) e))

  pub numbers_spliced : spell_avi (joined (renewed_avi (writes (move (goes (avi_of o) e)) o) (avi_of o)) e)
      ≡ with_size riff (length (inner (children_after (renewed_avi (writes (move (goes (avi_of o) e)) o) (avi_of o)) e) (avi_of o).left)) (splice (splice (written (writes (move (goes (avi_of o) e)) o) 0 o) (name_cuts (avi_of o) e.names)) (list_cuts (avi_of o) e))
  numbers_spliced =
      let how = move (goes a e) in
      joined_spliced b e (chunks_again o bytes s how e)
      ∙ ap (λ (c : List Cut). with_size riff (length (inner (children_after b e) b.left)) (splice (splice (spell_avi b) c) (list_cuts b e))) (names_same o bytes s how e)
      ∙ ap (λ (c : List Cut). with_size riff (length (inner (children_after b e) b.left)) (splice (splice (spell_avi b) c1) c)) (lists_same o bytes s how e)
      ∙ ap (at_size b) (sym (over o bytes s how))

  blanks_spliced : spell_avi (joined z e) ≡ at_size z (written zs 0 o)
  blanks_spliced =
      joined_spliced z e (chunks_again o bytes s blank e)
      ∙ ap (λ (c : List Cut). with_size riff (length (inner (children_after z e) z.left)) (splice (splice (spell_avi z) c) (list_cuts z e))) (names_same o bytes s blank e)
      ∙ ap (λ (c : List Cut). with_size riff (length (inner (children_after z e) z.left)) (splice (splice (spell_avi z) c1) c)) (lists_same o bytes s blank e)
      ∙ ap (at_size z) (sym (over o bytes s blank))

  -- ---- where the names put the tables

  abbrev first : ℕ → ℕ
  first q = shift (name_cuts (avi_of o) e.names) (q - 8) + 8

  abbrev GoesBy : ℕ → ℕ → ℕ → Type 0
  GoesBy p q i = Outside (name_cuts (avi_of o) e.names) (p + i) × (shift (name_cuts (avi_of o) e.names) (p + i) ≡ q + i)

  from_head : (h t i : ℕ) → t ≡ h + 8 → GoesBy h (shift c1 h) (8 + i) → GoesBy t (first t) i
  from_head h t i at r =
      let back : t - 8 ≡ h = omega arith in
      let same : t + i ≡ h + (8 + i) = omega arith in
      let there : first t + i ≡ shift c1 h + (8 + i) = omega (arith, ap (shift c1) back) in
      (subst (Outside c1) (sym same) r.0, ap (shift c1) same ∙ r.1 ∙ sym there)

  module _ (small : length (inner (children_after (renewed_avi (writes (move (goes (avi_of o) e)) o) (avi_of o)) e) (avi_of o).left) < 2 ^ 32) where
    -- a range in the essence goes as one
    in_movi : (m : Stood) → Among m (essence (avi_of o)) → (p i : ℕ) → m.at + 8 ≤ p → p + i < m.at + 8 + length m.chunk.body → GoesBy p (shift (name_cuts (avi_of o) e.names) p) i
    in_movi m j p i low high = go (among_append (only is_movi (top a)) (flat_map (λ x. only is_movi (kids x)) (others_at a)) m j)
      where
        go : Among m (only is_movi (top (avi_of o))) ⊎ Among m (flat_map (λ x. only is_movi (kids x)) (others_at (avi_of o))) → GoesBy p (shift (name_cuts (avi_of o) e.names) p) i
        go (inl k) =
            let moves = among_all (Moves_as_one (shift c1) (Outside c1)) (only is_movi (top a)) (names_movis o bytes s e) m k in
            let end = body_end m (among_all IsRiffHead (top a) (top_heads a g) m (among_only is_movi (top a) m k).0) in
            let x = moves ((p + i) - m.at) (omega (arith, end)) in
            let y = moves (p - m.at) (omega (arith, end)) in
            let xe : m.at + ((p + i) - m.at) ≡ p + i = omega arith in
            let ye : m.at + (p - m.at) ≡ p = omega arith in
            (subst (Outside c1) xe x.0, omega (arith, x.1, y.1, ap (shift c1) xe, ap (shift c1) ye))
        go (inr k) =
            let y = among_flat (λ x. only is_movi (kids x)) (others_at a) m k in
            let n = among_only is_movi (kids y.from) m y.in_it in
            let w = further_whole a g y.from y.from_among in
            let inside = kids_inside y.from w.bytes w.long m n.0 in
            let range = others_range a g y.from y.from_among in
            let end : 12 + length (spell_all a.children) ≤ p = omega (arith, low, inside.0, range.0, length-append (inner a.children a.left) a.pad, length-append (spell_all a.children) a.left) in
            let u = behind_block 12 12 (12 + length (spell_all a.children)) (12 + length (spell_all (named a e.names).children)) (p + i) c1 (names_block o bytes s e) (omega (arith, end)) in
            let v = behind_block 12 12 (12 + length (spell_all a.children)) (12 + length (spell_all (named a e.names).children)) p c1 (names_block o bytes s e) end in
            (u.0, omega (arith, u.1, v.1))

    index_goes : (t : Table) → Among t (indexes o) → (i : ℕ) → i < length t.body → GoesBy t.at (first t.at) i
    index_goes t j i lt = go (among_append (streams o) (flat_map (named_by o) (streams o)) t j)
      where
        go : Among t (streams o) ⊎ Among t (flat_map (named_by o) (streams o)) → GoesBy t.at (first t.at) i
        go (inl k) =
            let x = among_map table_of (stream_indexes a) t k in
            let m = among_flat kids (strls a) x.from (among_only (has_id (codes "indx")) (flat_map kids (strls a)) x.from x.from_among).0 in
            let end = body_end x.from (among_all IsRiffHead (kids m.from) (kids_heads m.from) x.from m.in_it) in
            let moves = among_all (Moves_as_one (shift c1) (Outside c1)) (stream_indexes a) (names_streams o bytes s e (hdrl_small o bytes s e small)) x.from x.from_among in
            let at : t.at ≡ x.from.at + 8 = sym (ap (λ (u : Table). u.at) x.same) in
            let long : length t.body ≡ length x.from.chunk.body = sym (ap (λ (u : Table). length u.body) x.same) in
            from_head x.from.at t.at i at (moves (8 + i) (omega (arith, end, lt, long)))
        go (inr k) =
            let n = named_from o bytes s t k in
            let p = n.place in
            let h = holder_of a p (8 + size_at o p) (named_place o bytes s t n).lies in
            let at : t.at ≡ p + 8 = sym (ap (λ (u : Table). u.at) n.is_named) in
            let long : length t.body ≡ length (named_table o p).body = sym (ap (λ (u : Table). length u.body) n.is_named) in
            from_head p t.at i at (in_movi h.movi h.movi_among p (8 + i) h.low (omega (arith, h.high, lt, long, length-take (size_at o p) (drop (p + 8) o))))

    old_goes : (x : Stood) → Among x (old_indexes (avi_of o)) → (i : ℕ) → i < length x.chunk.body → GoesBy (x.at + 8) (first (x.at + 8)) i
    old_goes x j i lt =
        let p = has_id (codes "idx1") in
        let end = body_end x (among_all IsRiffHead (top a) (top_heads a g) x (among_only p (top a) x (among_first (only p (top a)) x j)).0) in
        let moves = among_all (Moves_as_one (shift c1) (Outside c1)) (old_indexes a) (names_olds o bytes s e) x j in
        from_head x.at (x.at + 8) i refl (moves (8 + i) (omega (arith, end, lt)))

    tables_go : AllByRecursion (λ w. (i : ℕ) → i < length w.bytes → GoesBy w.at (first w.at) i) (writes blank o)
    tables_go = each_write o bytes s blank (λ at len. (i : ℕ) → i < len → GoesBy at (first at) i) index_goes old_goes

    module _ (grows : Grows o bytes s e) (fit : FitsBy (joined (renewed_avi (writes (move (goes (avi_of o) e)) o) (avi_of o)) e) (goes (avi_of o) e) o (spell_avi (joined (renewed_avi (writes (move (goes (avi_of o) e)) o) (avi_of o)) e))) where
      abbrev Free : ℕ → Type 0
      Free p = Outside (name_cuts (avi_of o) e.names) p × Outside (list_cuts (avi_of o) e) (shift (name_cuts (avi_of o) e.names) p)

      abbrev ws : List Write
      ws = writes (move (goes (avi_of o) e)) o

      -- where the lists of fields put the tables from there
      abbrev next : ℕ → ℕ
      next q = shift (list_cuts (avi_of o) e) (q - 8) + 8

      abbrev to : ℕ → ℕ
      to q = goes (avi_of o) e (q - 8) + 8

      in_turn : (q : ℕ) → to q ≡ next (first q)
      in_turn q =
          let back : first q - 8 ≡ shift c1 (q - 8) = omega arith in
          ap (λ (p : ℕ). shift c2 p + 8) (sym back)

      then_go : AllByRecursion (λ w. (i : ℕ) → i < length w.bytes → Outside c2 (w.at + i) × (shift c2 (w.at + i) ≡ next w.at + i)) (map (moved_write first) zs)
      then_go = go zs tables_go (zeros_go o bytes s (goes a e) Free (joined b e) (joined_laid o bytes s e small grows) fit)
        where
          go : (vs : List Write) → AllByRecursion (λ w. (i : ℕ) → i < length w.bytes → GoesBy w.at (first w.at) i) vs
              → AllByRecursion (λ w. (i : ℕ) → i < length w.bytes → Free (w.at + i) × (goes (avi_of o) e (w.at + i) ≡ to w.at + i)) vs
              → AllByRecursion (λ w. (i : ℕ) → i < length w.bytes → Outside (list_cuts (avi_of o) e) (w.at + i) × (shift (list_cuts (avi_of o) e) (w.at + i) ≡ next w.at + i)) (map (moved_write first) vs)
          go [] h k = tt
          go (w ∷ vs) h k = (
            (λ i lt.
                let x = h.0 i lt in
                let y = k.0 i lt in
                (subst (Outside c2) x.1 y.0.1, ap (shift c2) (sym x.1) ∙ y.1 ∙ ap (λ (q : ℕ). q + i) (in_turn w.at))),
            go vs h.1 k.1,
          )

      -- the spans lie in the bytes that they replace
      names_lie : Ascend 0 c1 (length (written ws 0 o))
      names_lie =
          let long : length o ≡ 12 + (length (spell_all a.children) + length (a.left ++ (a.pad ++ behind a))) = omega (arith, ap length (file_is o bytes s), length-append (spell_all a.children) (a.left ++ (a.pad ++ behind a))) in
          wider 0 0 (12 + length (spell_all a.children)) (length (written ws 0 o)) c1 (omega arith) (omega (arith, long, length-written ws 0 o)) (names_ascend o bytes s e)
        where
          file_is : (o : List ℕ) → IsBytes o → Supported o → o ≡ head_bytes (length (inner (avi_of o).children (avi_of o).left)) ++ (spell_all (avi_of o).children ++ ((avi_of o).left ++ ((avi_of o).pad ++ behind (avi_of o))))
          file_is o bytes s = (file_read o bytes s).spelled ∙ avi_parts (avi_of o)

      named_is : splice (spell_avi b) c1 ≡ head_bytes (length (inner b.children b.left)) ++ (spell_all (named b e.names).children ++ (b.left ++ (b.pad ++ behind b)))
      named_is = ap (splice (spell_avi b)) (sym (names_same o bytes s (move (goes a e)) e)) ∙ names_spliced b e.names (chunks_again o bytes s (move (goes a e)) e)

      lists_lie : Ascend 0 c2 (length (splice (written ws 0 o) c1))
      lists_lie =
          let n = named a e.names in
          let nb = named b e.names in
          let more = b.left ++ (b.pad ++ behind b) in
          let long : length (splice (written ws 0 o) c1) ≡ 12 + (length (spell_all nb.children) + length more) = ap (λ (x : List ℕ). length (splice x c1)) (over o bytes s (move (goes a e))) ∙ ap length named_is ∙ omega (arith, length-append (spell_all nb.children) more) in
          wider 0 0 (8 + length (inner n.children n.left) + length a.pad) (length (splice (written ws 0 o) c1)) c2 (omega arith)
          (omega (arith, long, named_long o bytes s (move (goes a e)) e, length-append (spell_all n.children) n.left, length-append b.left (b.pad ++ behind b), length-append b.pad (behind b))) (lists_ascend o bytes s e)

      same_size : length (inner (children_after b e) b.left) ≡ length (inner (children_after z e) z.left)
      same_size = size_stays o bytes s (move (goes a e)) e ∙ sym (size_stays o bytes s blank e)

      -- zeros go with the tables
      zeros_over : written (map (moved_write to) zs) 0 (splice (splice (written ws 0 o) c1) c2) ≡ splice (splice (written zs 0 o) c1) c2
      zeros_over =
          ap (λ (v : List Write). written v 0 (splice (splice (written ws 0 o) c1) c2)) (twice first next to zs in_turn)
          ∙ moved_over (splice (written ws 0 o) c1) c2 next (map (moved_write first) zs) lists_lie then_go
          ∙ ap (λ (x : List ℕ). splice x c2) (moved_over (written ws 0 o) c1 first zs names_lie tables_go)
          ∙ ap (λ (x : List ℕ). splice (splice x c1) c2) (zeros_both o bytes s (goes a e) Free (joined b e) (joined_laid o bytes s e small grows) fit)

      -- the new file with zeros over its numbers is the old one with zeros, edited
      zeros_joined : renumbered blank (spell_avi (joined b e)) ≡ spell_avi (joined z e)
      zeros_joined =
          let n = spell_avi (joined b e) in
          let W = map (moved_write to) zs in
          let k = length (inner (children_after b e) b.left) in
          let x = splice (splice (written ws 0 o) c1) c2 in
          let long : 12 ≤ length n = omega (arith, ap length (avi_parts (joined b e))) in
          let eight : 8 ≤ length x = omega (arith, long, ap length numbers_spliced, length-append (take 4 x) (to_le_bytes w32 k ++ drop 8 x), length-append (to_le_bytes w32 k) (drop 8 x), length-take 4 x, length-drop 8 x) in
          ap (λ (y : List Write). written y 0 n) (zeros_are o bytes s (goes a e) Free (joined b e) (joined_laid o bytes s e small grows) fit)
          ∙ ap (written W 0) numbers_spliced ∙ size_written W k x eight (all_behind zs) ∙ ap (with_size riff k) zeros_over
          ∙ ap (λ (q : ℕ). with_size riff q (splice (splice (written zs 0 o) c1) c2)) same_size ∙ sym blanks_spliced
        where
          all_behind : (vs : List Write) → AllByRecursion (λ w. 8 ≤ w.at) (map (moved_write to) vs)
          all_behind [] = tt
          all_behind (v ∷ vs) = (omega arith, all_behind vs)

      small_blank : length (inner (children_after z e) z.left) < 2 ^ 32
      small_blank = omega (arith, small, same_size)

      ready_blank : Ready (named z e.names) e.infos
      ready_blank =
          ready_of (named z e.names) e.infos small_blank
          (infos_named o bytes s e (ends_file z) z.children (chunks_again o bytes s blank e) (lists_end zs 12 a.children (alone o bytes s blank) (lists_of o s)))

      -- What an edit keeps stands where the edit places it.
      pub joined_kept : SetsInfo e.infos → all_kept (joined_file o e) ≡ all_placed (all_kept o) e
      joined_kept sets =
          ap all_kept (joined_again o bytes s e small) ∙ ap (λ (y : List ℕ). all_kept_in (avi_of y)) zeros_joined
          ∙ ap all_kept_in (avi_again (joined z e) (joined_readable o bytes s blank e small_blank))
          ∙ parts_placed z e (chunks_again o bytes s blank e) small_blank sets ready_blank ∙ ap (λ (x : Avi). all_placed (all_kept_in x) e) (sym (read_again o bytes s blank))
