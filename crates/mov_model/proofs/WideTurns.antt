-- The headers of the atoms that grow and the rows of the tables in an atom of moov, replaced, make the atom with wide tables.
use Rattle.std.proofs.Common.{Bool, List, None, Option, Some, [], ap, append_assoc, arith, cond, drop, false, length, map, refl, subst, suc, sym, take, true, zero, ℕ, ◌*◌, ◌++◌, ◌+◌, ◌-◌, ◌^◌, ◌∙◌, ◌∷◌, ◌≡◌, ◌≤◌}
use Rattle.std.specs.Prelude.{codes}
use Rattle.std.specs.List.{AllByRecursion, flat_map}
use Rattle.std.proofs.lemmas.List.{append-nil, drop-drop, drop_at, length-append, length-drop, length-take, take-append-drop, take_at}
use Rattle.std.proofs.lemmas.List.Concat.{flat_map-append}
use Rattle.container_model.proofs.Atoms.{atoms_give_back}
use Rattle.container_model.proofs.Codec.{IsBytes, chunks_spelled}
use Rattle.container_model.proofs.Cuts.{CanMake}
use Rattle.container_model.proofs.Deep.{Alike, all_len, bytes_of, mend_alike}
use Rattle.container_model.proofs.Moved.{atom_moves}
use Rattle.container_model.proofs.Read.{atoms_again}
use Rattle.container_model.proofs.Rows.{be64_spells, changed_spelled}
use Rattle.container_model.proofs.Units.{From, From-low, splice_past}
use Rattle.container_model.specs.Atoms.{is}
use Rattle.container_model.specs.Chunk.{Chunk, Run, ends, header_bytes, spell, spell_all}
use Rattle.container_model.specs.Deep.{Whole, Whole_at, kids, leaves, leaves_at, mend, mend_at, with_kids}
use Rattle.container_model.specs.Rows.{be32, be64, changed, spelled}
use Rattle.container_model.specs.Sizes.{atom_front, inside}
use Rattle.container_model.specs.Splice.{Ascend, Cut, end_of, splice_from}
use Rattle.container_model.specs.Walk.{Step, along, body_at, chunk_at, end_at, walk, walk_at}
use Rattle.mov_model.specs.Atoms.{Place, dinf, file, format, mdia, minf, moov, opens, stbl, trak, user_data}
use Rattle.mov_model.specs.Cuts.{table_cut, tables_at}
use Rattle.mov_model.specs.Tables.{in_stbl, moved_leaf, relocated}
use Rattle.mov_model.specs.Widen.{wide_at, wide_atom, wide_body, wide_in, wide_leaf, wide_table}
use Rattle.mov_model.specs.WideCuts.{grown_in, head_cut, rows_growth, wide_cuts_at, wide_kid_cuts, wide_rows, wide_step_cuts, wide_table_cuts}
use Rattle.mov_model.proofs.Tables.{keeps}
use Rattle.mov_model.proofs.Tree.{Turns, low_ascend, stays, table_turns}
use Rattle.mov_model.proofs.Wide.{count_wide, behind_wide, rows_wide, take_front, wide_length}
use Rattle.mov_model.proofs.WideDeep.{Ready, all_two, all_wide, body_bytes, kids_ready, tables_of, wide_deep}
use Rattle.mov_model.proofs.WideGrown.{along_grows, growth_two, no_opens, opened_growth, opened_none, rank, rank_down, ready_each, same_growth, wide_grows}
use Rattle.sample_tables.proofs.Moved.{body_len, long_rows}
use Rattle.sample_tables.specs.Tables.{count, is_short_table, moved_body, rows}

-- one span in the bytes, with what stands before it
one_cut : (at : ℕ) (x : Cut) (a old b : List ℕ) (more : List Cut) → x.at ≡ at + length a → x.len ≡ length old → splice_from at (a ++ (old ++ b)) (x ∷ more) ≡ a ++ (x.bytes ++ splice_from (end_of x) b more)
one_cut at x a old b more e l =
    let first : length a ≡ x.at - at = omega (arith, e) in
    let last : length (a ++ old) ≡ end_of x - at = omega (arith, e, l, length-append a old) in
    let front : take (x.at - at) (a ++ (old ++ b)) ≡ a = take_at a (old ++ b) (x.at - at) first in
    let back : drop (end_of x - at) (a ++ (old ++ b)) ≡ b = ap (drop (end_of x - at)) (sym (append_assoc a old b)) ∙ drop_at (a ++ old) b (end_of x - at) last in
    rw (front, back) refl

module _ (f : ℕ → ℕ) where
  abbrev wide_steps : List (Step Place) → List Cut
  wide_steps ss = flat_map (wide_step_cuts f) ss

  -- an atom with its tables moved
  abbrev moves : ℕ → Place → Chunk → Chunk
  moves d p c = mend format (moved_leaf f) d p c

  -- ---- a table

  module _ (c : Chunk) (long : 8 + 4 * count c ≤ length c.body) (bytes : IsBytes c.body) where
    abbrev wide : Chunk
    wide = record c { id = codes "co64"; body = wide_body c }

    abbrev four : ℕ
    four = 4 * count c

    abbrev front : List ℕ
    front = take 8 c.body

    abbrev old : List ℕ
    old = take four (drop 8 c.body)

    abbrev tail : List ℕ
    tail = drop four (drop 8 c.body)

    abbrev new : List ℕ
    new = spelled be64 (map f (rows be32 c))

    abbrev moved : List ℕ
    moved = moved_body f wide

    moved_is : moved ≡ front ++ (new ++ tail)
    moved_is =
        let room : 8 * count wide ≤ length (drop 8 wide.body) = omega (arith, length-drop 8 wide.body, wide_length c long bytes, count_wide c long bytes, long) in
        let n = 8 * count wide in
        let behind : drop n (drop 8 wide.body) ≡ tail = drop-drop n 8 wide.body ∙ ap (λ (k : ℕ). drop (8 + 8 * k) wide.body) (count_wide c long bytes) ∙ behind_wide c long bytes ∙ sym (drop-drop four 8 c.body) in
        ap (λ (x : List ℕ). x ++ changed be64 f (count wide) (drop 8 wide.body)) (take_front c long bytes)
        ∙ ap (λ (x : List ℕ). front ++ x) (changed_spelled be64 (2 ^ 64) be64_spells f (count wide) (drop 8 wide.body) room)
        ∙ ap (λ (ns : List ℕ). front ++ (spelled be64 (map f ns) ++ drop n (drop 8 wide.body))) (rows_wide c long bytes) ∙ ap (λ (x : List ℕ). front ++ (new ++ x)) behind

    moved_length : length moved ≡ length c.body + four
    moved_length = body_len f wide ∙ wide_length c long bytes

    stco_turns : (at : ℕ) → Turns f (head_cut at c (codes "co64") (length c.body + four) ∷ (wide_rows f at c ∷ [])) at c (record wide { body = moved })
    stco_turns at =
        let h = head_cut at c (codes "co64") (length c.body + four) in
        let r = wide_rows f at c in
        let head = header_bytes c.form c.id (length c.body) in
        let front_len : length front ≡ 8 = omega (arith, length-take 8 c.body, long) in
        let old_len : length old ≡ four = omega (arith, length-take four (drop 8 c.body), length-drop 8 c.body, long) in
        let whole : c.body ≡ front ++ (old ++ tail) = sym (ap (λ (y : List ℕ). front ++ y) (take-append-drop four (drop 8 c.body)) ∙ take-append-drop 8 c.body) in
        let end : end_of r + length (tail ++ c.pad) ≡ at + length (spell c)
        = omega (arith, length-append head (c.body ++ c.pad), length-append c.body c.pad, ap length whole, length-append front (old ++ tail), length-append old tail, length-append tail c.pad, front_len, old_len) in
        record {
          from = λ more g. omega arith;
          ascend = λ more stop g. (omega arith, (omega arith, low_ascend f (end_of r) (at + length (spell c)) more stop (omega (arith, end)) g));
          turns = λ rest more g.
              let mb = tail ++ (c.pad ++ rest) in
              let split : spell c ++ rest ≡ head ++ (front ++ (old ++ mb)) = ap (λ (y : List ℕ). (head ++ (y ++ c.pad)) ++ rest) whole ∙ simp append_assoc in
              let first : splice_from at (head ++ (front ++ (old ++ mb))) (h ∷ (r ∷ more)) ≡ h.bytes ++ splice_from (end_of h) (front ++ (old ++ mb)) (r ∷ more) = one_cut at h [] head (front ++ (old ++ mb)) (r ∷ more) (omega arith) refl in
              let second : splice_from (end_of h) (front ++ (old ++ mb)) (r ∷ more) ≡ front ++ (r.bytes ++ splice_from (end_of r) mb more) = one_cut (end_of h) r front old mb more (omega (arith, front_len)) (omega (arith, old_len)) in
              let past : splice_from (end_of r) mb more ≡ (tail ++ c.pad) ++ splice_from (at + length (spell c)) rest more
              = ap (λ (y : List ℕ). splice_from (end_of r) y more) (sym (append_assoc tail c.pad rest)) ∙ splice_past (end_of r) (tail ++ c.pad) rest more (rw end g) ∙ ap (λ (k : ℕ). (tail ++ c.pad) ++ splice_from k rest more) end in
              let made : spell (record wide { body = moved }) ≡ h.bytes ++ ((front ++ (new ++ tail)) ++ c.pad)
              = ap (λ (k : ℕ). header_bytes c.form (codes "co64") k ++ (moved ++ c.pad)) moved_length ∙ ap (λ (y : List ℕ). h.bytes ++ (y ++ c.pad)) moved_is in
              ap (λ (y : List ℕ). splice_from at y (h ∷ (r ∷ more))) split ∙ first ∙ ap (λ (y : List ℕ). h.bytes ++ y) second
              ∙ ap (λ (y : List ℕ). h.bytes ++ (front ++ (new ++ y))) past ∙ shuffle h.bytes front new tail c.pad (splice_from (at + length (spell c)) rest more)
              ∙ ap (λ (y : List ℕ). y ++ splice_from (at + length (spell c)) rest more) (sym made);
        }
      where
        shuffle : (a b d e g z : List ℕ) → a ++ (b ++ (d ++ ((e ++ g) ++ z))) ≡ (a ++ ((b ++ (d ++ e)) ++ g)) ++ z
        shuffle a b d e g z = simp append_assoc

  wide_table_turns : (at : ℕ) (c : Chunk) → is_short_table c ≡ false → IsBytes c.body → Turns f (wide_table_cuts f at c) at c (record (wide_table c) { body = moved_body f (wide_table c) })
  wide_table_turns at c fine bytes = go (is c (codes "stco")) refl
    where
      go : (t : Bool) → is c (codes "stco") ≡ t
          → Turns f (cond t (head_cut at c (codes "co64") (length c.body + 4 * count c) ∷ (wide_rows f at c ∷ [])) (map (table_cut f c) (tables_at at c))) at c (record (cond t (record c { id = codes "co64"; body = wide_body c }) c) { body = moved_body f (cond t (record c { id = codes "co64"; body = wide_body c }) c) })
      go true e = stco_turns c ((long_rows c fine).0 e) bytes at
      go false e = table_turns f at c fine

  leaf_turns : (p : Place) (at : ℕ) (c : Chunk) → AllByRecursion (λ c. is_short_table c ≡ false) (in_stbl p c) → IsBytes c.body → Turns f (wide_cuts_at f p at c None) at c (record (wide_leaf p c) { body = moved_leaf f p (wide_leaf p c) })
  leaf_turns stbl at c l b = wide_table_turns at c l.0 b
  leaf_turns file at c l b = stays f at c
  leaf_turns user_data at c l b = stays f at c
  leaf_turns moov at c l b = stays f at c
  leaf_turns trak at c l b = stays f at c
  leaf_turns mdia at c l b = stays f at c
  leaf_turns minf at c l b = stays f at c
  leaf_turns dinf at c l b = stays f at c

  last_turns : (p : Place) (at : ℕ) (c : Chunk) → AllByRecursion (λ c. is_short_table c ≡ false) (in_stbl p c) → IsBytes c.body → Turns f (wide_cuts_at f p at c None ++ []) at c (record (wide_leaf p c) { body = moved_leaf f p (wide_leaf p c) })
  last_turns p at c l b = subst (λ (x : List Cut). Turns f x at c (record (wide_leaf p c) { body = moved_leaf f p (wide_leaf p c) })) (sym (append-nil (wide_cuts_at f p at c None))) (leaf_turns p at c l b)

  -- ---- atoms that follow each other

  abbrev TurnsAll : List Cut → ℕ → List Chunk → List Chunk → Type 0
  TurnsAll cs at old new =
      ((more : List Cut) → From (at + length (spell_all old)) more → From at (cs ++ more))
      × ((rest : List ℕ) (more : List Cut) → From (at + length (spell_all old)) more → splice_from at (spell_all old ++ rest) (cs ++ more) ≡ spell_all new ++ splice_from (at + length (spell_all old)) rest more)
      × ((more : List Cut) (end : ℕ) → Ascend (at + length (spell_all old)) more end → Ascend at (cs ++ more) end)

  along_turns : (d : ℕ) (q : Place) → ((at : ℕ) (c : Chunk) → Ready d q c → Turns f (wide_steps (walk format d q at c)) at c (moves d q (wide_in d q c))) → (at : ℕ) (cs : List Chunk) → AllByRecursion (Ready d q) cs
      → TurnsAll (wide_steps (along (walk format d q) at cs)) at cs (map (moves d q) (map (wide_in d q) cs))
  along_turns d q each at [] r = (λ more h. rw (zero_more at) at h, λ rest more h. ap (λ (k : ℕ). splice_from k rest more) (sym (zero_more at)), λ more end h. subst (λ (k : ℕ). Ascend k more end) (zero_more at) h)
    where
      zero_more : (at : ℕ) → at + 0 ≡ at
      zero_more at = omega arith
  along_turns d q each at (c ∷ cs) r =
      let next = at + length (spell c) in
      let one = each at c r.0 in
      let again = along_turns d q each next cs r.1 in
      let x = wide_steps (walk format d q at c) in
      let y = wide_steps (along (walk format d q) next cs) in
      let len : next + length (spell_all cs) ≡ at + length (spell c ++ spell_all cs) = omega (arith, length-append (spell c) (spell_all cs)) in
      let parts : (more : List Cut) → wide_steps (along (walk format d q) at (c ∷ cs)) ++ more ≡ x ++ (y ++ more)
      = λ more. ap (λ (z : List Cut). z ++ more) (flat_map-append (wide_step_cuts f) (walk format d q at c) (along (walk format d q) next cs)) ∙ append_assoc x y more in (
        λ more h. rw (parts more) (one.from (y ++ more) (again.0 more (rw len h))),
        λ rest more h.
            let back : From (next + length (spell_all cs)) more = rw len h in
            let e = moves d q (wide_in d q c) in
            let es = map (moves d q) (map (wide_in d q) cs) in
            ap (splice_from at ((spell c ++ spell_all cs) ++ rest)) (parts more) ∙ ap (λ (b : List ℕ). splice_from at b (x ++ (y ++ more))) (append_assoc (spell c) (spell_all cs) rest)
            ∙ one.turns (spell_all cs ++ rest) (y ++ more) (again.0 more back) ∙ ap (λ (b : List ℕ). spell e ++ b) (again.1 rest more back ∙ ap (λ (k : ℕ). spell_all es ++ splice_from k rest more) len)
            ∙ sym (append_assoc (spell e) (spell_all es) (splice_from (at + length (spell c ++ spell_all cs)) rest more)),
        λ more end h. subst (λ (z : List Cut). Ascend at z end) (sym (parts more)) (one.ascend (y ++ more) end (again.2 more end (subst (λ (k : ℕ). Ascend k more end) (sym len) h))),
      )

  -- ---- an atom, by what it opens

  alikes : (d : ℕ) (q : Place) (es : List Chunk) → AllByRecursion (Whole format d q) es → AllByRecursion (λ c. IsBytes c.body) es → AllByRecursion (λ c. Alike c (moves d q c)) es
  alikes d q [] w b = tt
  alikes d q (e ∷ es) w b = (mend_alike format atoms_give_back atom_moves (moved_leaf f) (keeps f) d q e w.0 b.0, alikes d q es w.1 b.1)

  -- what an atom grows by are the rows in it
  grown_is : (d : ℕ) (p q : Place) (at : ℕ) (c : Chunk) → opens p c.id (take 4 c.body) ≡ Some q → rank p ≤ suc d → rank p ≤ 4 → grown_in p c ≡ rows_growth (along (walk format d q) (body_at at c + 0) (kids format q c).chunks)
  unfolding walk
  grown_is d p q at c i low low5 =
      let one = opened_none p q at c i in
      let whole : rows_growth (walk format (suc d) p at c) ≡ rows_growth (walk_at format (walk format d) at c (Some q)) = ap (λ (o : Option Place). rows_growth (chunk_at p at c ∷ walk_at format (walk format d) at c o)) i ∙ omega (arith, one, growth_two (chunk_at p at c ∷ []) (walk_at format (walk format d) at c (Some q))) in
      same_growth 5 (suc d) p 0 at c (omega arith) low ∙ whole ∙ opened_growth d q at c

  opened_turns : (d : ℕ) (p q : Place) (at : ℕ) (c : Chunk) → opens p c.id (take 4 c.body) ≡ Some q → rank p ≤ suc d → rank p ≤ 4
      → ((at : ℕ) (c : Chunk) → Ready d q c → Turns f (wide_steps (walk format d q at c)) at c (moves d q (wide_in d q c)))
      → IsBytes (spell c) → Whole_at format (Whole format d) c (Some q) → AllByRecursion (λ c. is_short_table c ≡ false) (tables_of (flat_map (leaves format d q) (kids format q c).chunks)) → length c.body ≤ 2 ^ 26
      → Turns f (wide_cuts_at f p at c (Some q) ++ wide_steps (walk_at format (walk format d) at c (Some q))) at c (mend_at format (moved_leaf f) (moves d) p (wide_at (wide_in d) p c (Some q)) (Some q))
  opened_turns d p q at c i low low5 each h w t small =
      let k = kids format q c in
      let ready = kids_ready d q c (body_bytes c h) w.0 w.2 t small in
      let joined : spell_all k.chunks ++ k.left ≡ c.body = ready.2 in
      let wide_all = all_wide d q (wide_in d q) (wide_deep d q) k.chunks ready.0 in
      let es = map (wide_in d q) k.chunks in
      let ts = map (moves d q) es in
      let again : kids format q (with_kids format q c es) ≡ record { chunks = es; stop = ends; left = k.left } = chunks_spelled atom_front inside es k.left (atoms_again inside es k.left wide_all.read ready.1) in
      let head = header_bytes c.form c.id (length c.body) in
      let q0 = body_at at c + 0 in
      let each_ready = ready_each d q k.chunks ready.0 in
      let all = along_turns d q each q0 k.chunks each_ready in
      let y = wide_steps (along (walk format d q) q0 k.chunks) in
      let hc = head_cut at c c.id (length c.body + grown_in p c) in
      let body = spell_all ts ++ k.left in
      let target : Chunk = record c { body = body } in
      let is_target : mend_at format (moved_leaf f) (moves d) p (wide_at (wide_in d) p c (Some q)) (Some q) ≡ target = ap (λ (r : Run). record c { body = spell_all (map (moves d q) r.chunks) ++ r.left }) again in
      let bytes_es = bytes_of es [] (subst IsBytes (sym (append-nil (spell_all es))) wide_all.bytes) in
      let same_len : length (spell_all ts) ≡ length (spell_all es) = all_len (moves d q) es (alikes d q es wide_all.whole bytes_es) in
      let more_len : length (spell_all es) ≡ length (spell_all k.chunks) + rows_growth (along (walk format d q) q0 k.chunks) = along_grows d q (λ x k r. wide_grows d q x k r) q0 k.chunks each_ready in
      let grown : grown_in p c ≡ rows_growth (along (walk format d q) q0 k.chunks) = grown_is d p q at c i low low5 in
      let body_len : length body ≡ length c.body + grown_in p c = omega (arith, same_len, more_len, grown, length-append (spell_all ts) k.left, length-append (spell_all k.chunks) k.left, ap length joined) in
      let after = k.left ++ c.pad in
      let end : (q0 + length (spell_all k.chunks)) + length after ≡ at + length (spell c)
      = omega (arith, length-append head (c.body ++ c.pad), length-append c.body c.pad, ap length joined, length-append (spell_all k.chunks) k.left, length-append k.left c.pad) in
      let cuts : (more : List Cut) → (wide_cuts_at f p at c (Some q) ++ wide_steps (walk_at format (walk format d) at c (Some q))) ++ more ≡ hc ∷ (y ++ more)
      = λ more. ap (λ (z : List Cut). hc ∷ (z ++ more)) (flat_map-append (wide_step_cuts f) (along (walk format d q) q0 k.chunks) (end_at q (body_at at c + (0 + length (spell_all k.chunks))) k.stop ∷ []) ∙ append-nil y) in
      let made : spell target ≡ hc.bytes ++ ((spell_all ts ++ k.left) ++ c.pad) = ap (λ (n : ℕ). header_bytes c.form c.id n ++ (body ++ c.pad)) body_len in
      let inner_from : (more : List Cut) → From (at + length (spell c)) more → From (q0 + length (spell_all k.chunks)) more = λ more g. From-low (q0 + length (spell_all k.chunks)) (at + length (spell c)) more (omega (arith, end)) g in
      subst (Turns f (wide_cuts_at f p at c (Some q) ++ wide_steps (walk_at format (walk format d) at c (Some q))) at c) (sym is_target)
      (record {
        from = λ more g. subst (From at) (sym (cuts more)) (omega arith);
        ascend = λ more stop g. subst (λ (z : List Cut). Ascend at z stop) (sym (cuts more))
            (omega arith, low_ascend f (end_of hc) q0 (y ++ more) stop (omega arith) (all.2 more stop (low_ascend f (q0 + length (spell_all k.chunks)) (at + length (spell c)) more stop (omega (arith, end)) g)));
        turns = λ rest more g.
            let low = inner_from more g in
            let inside_bytes = after ++ rest in
            let place : end_of hc ≡ q0 = omega arith in
            let split : spell c ++ rest ≡ head ++ (spell_all k.chunks ++ inside_bytes) = ap (λ (z : List ℕ). (head ++ (z ++ c.pad)) ++ rest) (sym joined) ∙ simp append_assoc in
            let first : splice_from at (head ++ (spell_all k.chunks ++ inside_bytes)) (hc ∷ (y ++ more)) ≡ hc.bytes ++ splice_from (end_of hc) (spell_all k.chunks ++ inside_bytes) (y ++ more) = one_cut at hc [] head (spell_all k.chunks ++ inside_bytes) (y ++ more) (omega arith) refl in
            let tail : splice_from (q0 + length (spell_all k.chunks)) inside_bytes more ≡ after ++ splice_from (at + length (spell c)) rest more
            = splice_past (q0 + length (spell_all k.chunks)) after rest more (rw end g) ∙ ap (λ (n : ℕ). after ++ splice_from n rest more) end in
            let z = splice_from (at + length (spell c)) rest more in
            ap (splice_from at (spell c ++ rest)) (cuts more) ∙ ap (λ (b : List ℕ). splice_from at b (hc ∷ (y ++ more))) split ∙ first
            ∙ ap (λ (n : ℕ). hc.bytes ++ splice_from n (spell_all k.chunks ++ inside_bytes) (y ++ more)) place
            ∙ ap (λ (b : List ℕ). hc.bytes ++ b) (all.1 inside_bytes more low ∙ ap (λ (b : List ℕ). spell_all ts ++ b) tail)
            ∙ shuffle hc.bytes (spell_all ts) k.left c.pad z ∙ ap (λ (b : List ℕ). b ++ z) (sym made);
      })
    where
      shuffle : (a b d e z : List ℕ) → a ++ (b ++ ((d ++ e) ++ z)) ≡ (a ++ ((b ++ d) ++ e)) ++ z
      shuffle a b d e z = simp append_assoc

  rank_four : (p : Place) → rank p ≤ 4
  rank_four file = omega arith
  rank_four user_data = omega arith
  rank_four moov = omega arith
  rank_four trak = omega arith
  rank_four mdia = omega arith
  rank_four minf = omega arith
  rank_four stbl = omega arith
  rank_four dinf = omega arith

  at_turns : (d : ℕ) → ((q : Place) (at : ℕ) (c : Chunk) → rank q ≤ d → Ready d q c → Turns f (wide_steps (walk format d q at c)) at c (moves d q (wide_in d q c)))
      → (p : Place) (at : ℕ) (c : Chunk) (o : Option Place) → opens p c.id (take 4 c.body) ≡ o → rank p ≤ suc d → IsBytes (spell c) → Whole_at format (Whole format d) c o
      → AllByRecursion (λ c. is_short_table c ≡ false) (tables_of (leaves_at format (leaves format d) p c o)) → length c.body ≤ 2 ^ 26
      → Turns f (wide_cuts_at f p at c o ++ wide_steps (walk_at format (walk format d) at c o)) at c (mend_at format (moved_leaf f) (moves d) p (wide_at (wide_in d) p c o) o)
  at_turns d each p at c None i low h w t small = last_turns p at c (all_two (λ c. is_short_table c ≡ false) (in_stbl p c) [] t).0 (body_bytes c h)
  at_turns d each p at c (Some q) i low h w t small =
      let down = rank_down p q c.id (take 4 c.body) i in
      opened_turns d p q at c i low (rank_four p) (λ x k r. each q x k (omega (arith, down)) r) h w t small

  pub wide_turns : (d : ℕ) (p : Place) (at : ℕ) (c : Chunk) → rank p ≤ d → Ready d p c → Turns f (wide_steps (walk format d p at c)) at c (moves d p (wide_in d p c))
  unfolding walk mend wide_in Whole leaves
  wide_turns zero p at c low r =
      subst (λ (o : Option Place). Turns f (wide_cuts_at f p at c o ++ []) at c (record (wide_leaf p c) { body = moved_leaf f p (wide_leaf p c) })) (sym (no_opens p c.id (take 4 c.body) low))
      (last_turns p at c (all_two (λ c. is_short_table c ≡ false) (in_stbl p c) [] r.tables).0 (body_bytes c r.bytes))
  wide_turns (suc d) p at c low r =
      let o = opens p c.id (take 4 c.body) in
      let e = wide_at (wide_in d) p c o in
      let same = (wide_deep (suc d) p c r).opens_same in
      subst (λ (x : Option Place). Turns f (wide_steps (walk format (suc d) p at c)) at c (mend_at format (moved_leaf f) (moves d) p e x)) (sym same)
      (at_turns d (λ q x k l y. wide_turns d q x k l y) p at c o refl low r.bytes r.whole r.tables r.small)

  -- an atom of moov
  pub wide_kid_makes : (c : Chunk) → Ready 5 moov c → CanMake (wide_kid_cuts f) (λ k. relocated f (wide_atom k)) c
  wide_kid_makes c r at = let t = wide_turns 5 moov at c (omega arith) r in record { from = t.from; ascend = t.ascend; makes = t.turns }

  no_track : (at : ℕ) (c : Chunk) → is c (codes "trak") ≡ false → wide_kid_cuts f at c ≡ []
  unfolding walk
  no_track at c n = rw n refl

  -- one that is no track
  pub wide_plain_makes : (g : Chunk → Chunk) (c : Chunk) → g c ≡ c → is c (codes "trak") ≡ false → CanMake (wide_kid_cuts f) g c
  wide_plain_makes g c same n at =
      let none : wide_kid_cuts f at c ≡ [] = no_track at c n in
      let s = stays f at c in
      record {
        from = λ more h. rw none (s.from more h);
        ascend = λ more end h. subst (λ (x : List Cut). Ascend at (x ++ more) end) (sym none) (s.ascend more end h);
        makes = λ rest more h. ap (λ (x : List Cut). splice_from at (spell c ++ rest) (x ++ more)) none ∙ s.turns rest more h ∙ ap (λ (d : Chunk). spell d ++ splice_from (at + length (spell c)) rest more) (sym same);
      }
