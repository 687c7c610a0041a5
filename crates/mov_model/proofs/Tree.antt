-- The rows of the tables in an atom of moov, replaced, make the relocated atom.
use Rattle.std.proofs.Common.{◌≡◌, ℕ, zero, suc, ◌+◌, ◌-◌, ◌*◌, ◌^◌, ◌≤◌, Bool, true, false, cond, List, [], ◌∷◌, ◌++◌, length, map, take, drop, Option, Some, None, refl, sym, ap, subst, ◌∙◌, append_assoc, arith}
use Rattle.std.specs.Prelude.{codes}
use Rattle.std.specs.List.{flat_map, AllByRecursion}
use Rattle.std.proofs.lemmas.List.{length-append, length-take, length-drop, take_at, drop_at, take-append-drop, append-nil}
use Rattle.std.proofs.lemmas.List.Concat.{flat_map-append}
use Rattle.me_bytes.specs.Bytes.{IsBytes}
use Rattle.container_model.specs.Chunk.{header_bytes, Chunk, spell, spell_all}
use Rattle.container_model.specs.Deep.{kids, mend_at, mend, Whole_at, Whole}
use Rattle.container_model.specs.Rows.{Width, be32, be64, spelled}
use Rattle.container_model.specs.Splice.{Ascend, Cut, end_of, splice_from}
use Rattle.container_model.specs.Walk.{Step, chunk_at, end_at, body_at, along, walk_at, walk, nested_at, nested}
use Rattle.container_model.proofs.Atoms.{atoms_give_back}
use Rattle.container_model.proofs.Codec.{chunks_joined}
use Rattle.container_model.proofs.Cuts.{CanMake}
use Rattle.container_model.proofs.Deep.{Alike, bytes_of, mend_alike}
use Rattle.container_model.proofs.Moved.{atom_moves}
use Rattle.container_model.proofs.Rows.{Spells, be32_spells, be64_spells, changed_spelled, spelled_len}
use Rattle.container_model.proofs.Units.{From, From-low, splice_past}
use Rattle.container_model.proofs.Walk.{OfLeaf, Sound, all_parts}
use Rattle.mov_model.specs.Atoms.{Place, file, user_data, moov, trak, mdia, minf, stbl, dinf, opens, format}
use Rattle.container_model.specs.Atoms.{is}
use Rattle.mov_model.specs.Tables.{moved_leaf, relocated}
use Rattle.sample_tables.specs.Tables.{count, rows, with_rows, is_short_table, moved_body}
use Rattle.mov_model.specs.Cuts.{kid_cuts, step_cuts, table_cut, table_of, tables_at}
use Rattle.mov_model.proofs.Kids.{KidOk}
use Rattle.mov_model.proofs.Steps.{AtomFine, low_prefix}
use Rattle.mov_model.proofs.Tables.{keeps, relocated_other}
use Rattle.sample_tables.proofs.Moved.{LongRows, long_rows}

module _ (f : ℕ → ℕ) where
  -- ---- nothing is replaced, or the rows of a table

  none_from : (g : Chunk → Chunk) (at : ℕ) (c : Chunk) (more : List Cut) → From (at + length (spell c)) more → From at more
  none_from g at c more h = From-low at (at + length (spell c)) more (omega arith) h

  none_makes : (at : ℕ) (c : Chunk) (rest : List ℕ) (more : List Cut) → From (at + length (spell c)) more → splice_from at (spell c ++ rest) more ≡ spell c ++ splice_from (at + length (spell c)) rest more
  none_makes at c rest more h = splice_past at (spell c) rest more h

  module _ (w : Width) (bound : ℕ) (sp : Spells w bound) where
    abbrev with_table : Chunk → Chunk
    with_table c = record c { body = with_rows w f c }

    table_from : (at : ℕ) (c : Chunk) (more : List Cut) → From at (table_cut f c (table_of w at c) ∷ more)
    table_from at c more = omega arith

    table_ascend : (at : ℕ) (c : Chunk) (more : List Cut) (end : ℕ) → 8 + w.bytes * count c ≤ length c.body → Ascend (at + length (spell c)) more end → Ascend at (table_cut f c (table_of w at c) ∷ more) end
    table_ascend at c more end long h =
        let head = header_bytes c.form c.id (length c.body) in
        (omega arith, low_more (end_of (table_cut f c (table_of w at c))) (at + length (spell c)) more end (omega (arith, length-append head (c.body ++ c.pad), length-append c.body c.pad)) h)
      where
        low_more : (low high : ℕ) (cs : List Cut) (end : ℕ) → low ≤ high → Ascend high cs end → Ascend low cs end
        low_more low high [] end le h = omega arith
        low_more low high (c ∷ cs) end le h = (omega (arith, h.0), h.1)

    table_makes : (at : ℕ) (c : Chunk) (rest : List ℕ) (more : List Cut) → 8 + w.bytes * count c ≤ length c.body → From (at + length (spell c)) more
        → splice_from at (spell c ++ rest) (table_cut f c (table_of w at c) ∷ more) ≡ spell (with_table c) ++ splice_from (at + length (spell c)) rest more
    table_makes at c rest more long from =
        let n = w.bytes * count c in
        let head = header_bytes c.form c.id (length c.body) in
        let front = take 8 c.body in
        let old = take n (drop 8 c.body) in
        let tail = drop n (drop 8 c.body) in
        let new = spelled w (map f (rows w c)) in
        let x = table_cut f c (table_of w at c) in
        let room : n ≤ length (drop 8 c.body) = omega (arith, length-drop 8 c.body) in
        let front_len : length front ≡ 8 = omega (arith, length-take 8 c.body) in
        let old_len : length old ≡ n = omega (arith, length-take n (drop 8 c.body)) in
        let body : with_rows w f c ≡ front ++ (new ++ tail) = ap (λ (y : List ℕ). front ++ y) (changed_spelled w bound sp f (count c) (drop 8 c.body) room) in
        let whole : c.body ≡ front ++ (old ++ tail) = sym (ap (λ (y : List ℕ). front ++ y) (take-append-drop n (drop 8 c.body)) ∙ take-append-drop 8 c.body) in
        let more_bytes = tail ++ (c.pad ++ rest) in
        let split : spell c ++ rest ≡ (head ++ front) ++ (old ++ more_bytes) = ap (λ (y : List ℕ). (head ++ (y ++ c.pad)) ++ rest) whole ∙ simp append_assoc in
        let low : length (head ++ front) ≡ (x.at - at) = omega (arith, length-append head front, front_len) in
        let high : length ((head ++ front) ++ old) ≡ (end_of x - at) = omega (arith, length-append head front, length-append (head ++ front) old, front_len, old_len) in
        let first : take (x.at - at) ((head ++ front) ++ (old ++ more_bytes)) ≡ head ++ front = take_at (head ++ front) (old ++ more_bytes) (x.at - at) low in
        let last : drop (end_of x - at) ((head ++ front) ++ (old ++ more_bytes)) ≡ more_bytes = ap (drop (end_of x - at)) (sym (append_assoc (head ++ front) old more_bytes)) ∙ drop_at ((head ++ front) ++ old) more_bytes (end_of x - at) high in
        let new_len : length new ≡ n = spelled_len w bound sp f (count c) (drop 8 c.body) in
        let same_len : length (with_rows w f c) ≡ length c.body = omega (arith, ap length body, ap length whole, length-append front (new ++ tail), length-append new tail, length-append front (old ++ tail), length-append old tail, new_len, old_len) in
        let end : end_of x + length (tail ++ c.pad) ≡ at + length (spell c)
        = omega (arith, length-append head (c.body ++ c.pad), length-append c.body c.pad, ap length whole, length-append front (old ++ tail), length-append old tail, length-append tail c.pad, front_len, old_len) in
        let past : splice_from (end_of x) more_bytes more ≡ (tail ++ c.pad) ++ splice_from (at + length (spell c)) rest more
        = ap (λ (y : List ℕ). splice_from (end_of x) y more) (sym (append_assoc tail c.pad rest)) ∙ splice_past (end_of x) (tail ++ c.pad) rest more (rw end from) ∙ ap (λ (k : ℕ). (tail ++ c.pad) ++ splice_from k rest more) end in
        let made : spell (with_table c) ≡ head ++ ((front ++ (new ++ tail)) ++ c.pad)
        = ap (λ (k : ℕ). header_bytes c.form c.id k ++ (with_rows w f c ++ c.pad)) same_len ∙ ap (λ (y : List ℕ). head ++ (y ++ c.pad)) body in
        ap (λ (y : List ℕ). splice_from at y (x ∷ more)) split ∙ rw (first, last, past, made) (simp append_assoc)

  pub low_ascend : (low high : ℕ) (cs : List Cut) (end : ℕ) → low ≤ high → Ascend high cs end → Ascend low cs end
  low_ascend low high [] end le h = omega arith
  low_ascend low high (c ∷ cs) end le h = (omega (arith, h.0), h.1)

  -- ---- an atom of a track, or another

  abbrev pub steps_cuts : List (Step Place) → List Cut
  steps_cuts ss = flat_map (step_cuts f) ss

  -- the spans are in the atom, and make another one of it
  pub record Turns (cs : List Cut) (at : ℕ) (c d : Chunk) : Type 0 where
    pub from : (more : List Cut) → From (at + length (spell c)) more → From at (cs ++ more)
    pub ascend : (more : List Cut) (end : ℕ) → Ascend (at + length (spell c)) more end → Ascend at (cs ++ more) end
    pub turns : (rest : List ℕ) (more : List Cut) → From (at + length (spell c)) more → splice_from at (spell c ++ rest) (cs ++ more) ≡ spell d ++ splice_from (at + length (spell c)) rest more

  pub stays : (at : ℕ) (c : Chunk) → Turns [] at c c
  stays at c = record { from = λ more h. none_from (λ x. x) at c more h; ascend = λ more end h. low_ascend at (at + length (spell c)) more end (omega arith) h; turns = λ rest more h. none_makes at c rest more h }

  -- a table in stbl
  pub table_turns : (at : ℕ) (c : Chunk) → is_short_table c ≡ false → Turns (map (table_cut f c) (tables_at at c)) at c (record c { body = moved_body f c })
  table_turns at c short = go (is c (codes "stco")) (is c (codes "co64")) refl refl
    where
      l : LongRows c
      l = long_rows c short

      go : (t u : Bool) → is c (codes "stco") ≡ t → is c (codes "co64") ≡ u
          → Turns (map (table_cut f c) (cond t (table_of be32 at c ∷ []) (cond u (table_of be64 at c ∷ []) []))) at c (record c { body = cond t (with_rows be32 f c) (cond u (with_rows be64 f c) c.body) })
      go true u e i = record { from = λ more h. table_from be32 (2 ^ 32) be32_spells at c more; ascend = λ more end h. table_ascend be32 (2 ^ 32) be32_spells at c more end (l.0 e) h; turns = λ rest more h. table_makes be32 (2 ^ 32) be32_spells at c rest more (l.0 e) h }
      go false true e i = record { from = λ more h. table_from be64 (2 ^ 64) be64_spells at c more; ascend = λ more end h. table_ascend be64 (2 ^ 64) be64_spells at c more end (l.1 i) h; turns = λ rest more h. table_makes be64 (2 ^ 64) be64_spells at c rest more (l.1 i) h }
      go false false e i = stays at c

  leaf_turns : (p : Place) (at : ℕ) (c : Chunk) → AtomFine p c → Turns (step_cuts f (chunk_at p at c)) at c (record c { body = moved_leaf f p c })
  leaf_turns file at c h = stays at c
  leaf_turns user_data at c h = stays at c
  leaf_turns moov at c h = stays at c
  leaf_turns trak at c h = stays at c
  leaf_turns mdia at c h = stays at c
  leaf_turns minf at c h = stays at c
  leaf_turns stbl at c h = table_turns at c h.1.0
  leaf_turns dinf at c h = stays at c

  -- what is opened holds no rows of its own
  no_cuts : (p q : Place) (at : ℕ) (c : Chunk) → opens p c.id (take 4 c.body) ≡ Some q → step_cuts f (chunk_at p at c) ≡ []
  no_cuts file q at c e = refl
  no_cuts user_data q at c e = refl
  no_cuts moov q at c e = refl
  no_cuts trak q at c e = refl
  no_cuts mdia q at c e = refl
  no_cuts minf q at c e = refl
  no_cuts stbl q at c e = absurd cc
  no_cuts dinf q at c e = refl

  -- ---- atoms that follow each other

  abbrev TurnsAll : List Cut → ℕ → List Chunk → List Chunk → Type 0
  TurnsAll cs at old new =
      ((more : List Cut) → From (at + length (spell_all old)) more → From at (cs ++ more))
      × ((rest : List ℕ) (more : List Cut) → From (at + length (spell_all old)) more → splice_from at (spell_all old ++ rest) (cs ++ more) ≡ spell_all new ++ splice_from (at + length (spell_all old)) rest more)
      × ((more : List Cut) (end : ℕ) → Ascend (at + length (spell_all old)) more end → Ascend at (cs ++ more) end)

  along_turns : (d : ℕ) (q : Place) → ((at : ℕ) (c : Chunk) → Sound format AtomFine low_prefix d q c → IsBytes c.body → Turns (steps_cuts (walk format d q at c)) at c (mend format (moved_leaf f) d q c))
      → (at : ℕ) (cs : List Chunk) → AllByRecursion (Whole format d q) cs → AllByRecursion (OfLeaf format AtomFine low_prefix) (flat_map (nested format d q) cs) → AllByRecursion (λ c. IsBytes c.body) cs
      → TurnsAll (steps_cuts (along (walk format d q) at cs)) at cs (map (mend format (moved_leaf f) d q) cs)
  along_turns d q each at [] w n b = (λ more h. rw (zero_more at) at h, λ rest more h. ap (λ (k : ℕ). splice_from k rest more) (sym (zero_more at)), λ more end h. subst (λ (k : ℕ). Ascend k more end) (zero_more at) h)
    where
      zero_more : (at : ℕ) → at + 0 ≡ at
      zero_more at = omega arith
  along_turns d q each at (c ∷ cs) w n b =
      let p = all_parts (OfLeaf format AtomFine low_prefix) (nested format d q c) (flat_map (nested format d q) cs) n in
      let next = at + length (spell c) in
      let one = each at c (w.0, p.0) b.0 in
      let again = along_turns d q each next cs w.1 p.1 b.1 in
      let x = steps_cuts (walk format d q at c) in
      let y = steps_cuts (along (walk format d q) next cs) in
      let len : next + length (spell_all cs) ≡ at + length (spell c ++ spell_all cs) = omega (arith, length-append (spell c) (spell_all cs)) in
      let parts : (more : List Cut) → steps_cuts (along (walk format d q) at (c ∷ cs)) ++ more ≡ x ++ (y ++ more)
      = λ more. ap (λ (z : List Cut). z ++ more) (flat_map-append (step_cuts f) (walk format d q at c) (along (walk format d q) next cs)) ∙ append_assoc x y more in (
        λ more h. rw (parts more) (one.from (y ++ more) (again.0 more (rw len h))),
        λ rest more h.
            let back : From (next + length (spell_all cs)) more = rw len h in
            let g = mend format (moved_leaf f) d q c in
            let gs = map (mend format (moved_leaf f) d q) cs in
            ap (splice_from at ((spell c ++ spell_all cs) ++ rest)) (parts more) ∙ ap (λ (b : List ℕ). splice_from at b (x ++ (y ++ more))) (append_assoc (spell c) (spell_all cs) rest)
            ∙ one.turns (spell_all cs ++ rest) (y ++ more) (again.0 more back) ∙ ap (λ (b : List ℕ). spell g ++ b) (again.1 rest more back ∙ ap (λ (k : ℕ). spell_all gs ++ splice_from k rest more) len)
            ∙ sym (append_assoc (spell g) (spell_all gs) (splice_from (at + length (spell c ++ spell_all cs)) rest more)),
        λ more end h. subst (λ (z : List Cut). Ascend at z end) (sym (parts more)) (one.ascend (y ++ more) end (again.2 more end (subst (λ (k : ℕ). Ascend k more end) (sym len) h))),
      )

  last_turns : (p : Place) (at : ℕ) (c : Chunk) → AtomFine p c → Turns (step_cuts f (chunk_at p at c) ++ []) at c (record c { body = moved_leaf f p c })
  last_turns p at c fine =
      let leaf = leaf_turns p at c fine in
      let x = step_cuts f (chunk_at p at c) in
      let same : x ++ [] ≡ x = append-nil x in
      record {
        from = λ more h. subst (λ (y : List Cut). From at (y ++ more)) (sym same) (leaf.from more h);
        ascend = λ more end h. subst (λ (y : List Cut). Ascend at (y ++ more) end) (sym same) (leaf.ascend more end h);
        turns = λ rest more h. ap (λ (y : List Cut). splice_from at (spell c ++ rest) (y ++ more)) same ∙ leaf.turns rest more h;
      }

  opened_turns : (d : ℕ) → ((q : Place) (at : ℕ) (c : Chunk) → Sound format AtomFine low_prefix d q c → IsBytes c.body → Turns (steps_cuts (walk format d q at c)) at c (mend format (moved_leaf f) d q c))
      → (p : Place) (at : ℕ) (c : Chunk) (o : Option Place) → opens p c.id (take 4 c.body) ≡ o → AtomFine p c → Whole_at format (Whole format d) c o
      → AllByRecursion (OfLeaf format AtomFine low_prefix) (nested_at format (nested format d) c o) → IsBytes c.body → Alike c (mend_at format (moved_leaf f) (mend format (moved_leaf f) d) p c o)
      → Turns (step_cuts f (chunk_at p at c) ++ steps_cuts (walk_at format (walk format d) at c o)) at c (mend_at format (moved_leaf f) (mend format (moved_leaf f) d) p c o)
  opened_turns d each p at c None e fine w n b alike = last_turns p at c fine
  opened_turns d each p at c (Some q) e fine w n b alike =
      let r = kids format q c in
      let head = header_bytes c.form c.id (length c.body) in
      let q0 = body_at at c + 0 in
      let g = mend format (moved_leaf f) d q in
      let joined : spell_all r.chunks ++ r.left ≡ c.body = chunks_joined (format.front) atoms_give_back (format.start q) c.body b in
      let kid_bytes = bytes_of r.chunks r.left (rw joined b) in
      let all = along_turns d q (each q) q0 r.chunks w.2 n kid_bytes in
      let y = steps_cuts (along (walk format d q) q0 r.chunks) in
      let after = r.left ++ c.pad in
      let end : (q0 + length (spell_all r.chunks)) + length after ≡ at + length (spell c)
      = omega (arith, length-append head (c.body ++ c.pad), length-append c.body c.pad, ap length joined, length-append (spell_all r.chunks) r.left, length-append r.left c.pad) in
      let cuts : (more : List Cut) → (step_cuts f (chunk_at p at c) ++ steps_cuts (walk_at format (walk format d) at c (Some q))) ++ more ≡ y ++ more
      = λ more. ap (λ (z : List Cut). (z ++ steps_cuts (walk_at format (walk format d) at c (Some q))) ++ more) (no_cuts p q at c e)
      ∙ ap (λ (z : List Cut). z ++ more) (flat_map-append (step_cuts f) (along (walk format d q) q0 r.chunks) (end_at q (body_at at c + (0 + length (spell_all r.chunks))) r.stop ∷ []) ∙ append-nil y) in
      let made : spell (mend_at format (moved_leaf f) (mend format (moved_leaf f) d) p c (Some q)) ≡ head ++ ((spell_all (map g r.chunks) ++ r.left) ++ c.pad)
      = ap (λ (k : ℕ). header_bytes c.form c.id k ++ ((spell_all (map g r.chunks) ++ r.left) ++ c.pad)) alike.len_is in
      let inner_from : (more : List Cut) → From (at + length (spell c)) more → From (q0 + length (spell_all r.chunks)) more = λ more h. From-low (q0 + length (spell_all r.chunks)) (at + length (spell c)) more (omega (arith, end)) h in
      record {
        from = λ more h. subst (From at) (sym (cuts more)) (From-low at q0 (y ++ more) (omega arith) (all.0 more (inner_from more h)));
        ascend = λ more stop h. subst (λ (z : List Cut). Ascend at z stop) (sym (cuts more)) (low_ascend at q0 (y ++ more) stop (omega arith) (all.2 more stop (low_ascend (q0 + length (spell_all r.chunks)) (at + length (spell c)) more stop (omega (arith, end)) h)));
        turns = λ rest more h.
            let low = inner_from more h in
            let inside = after ++ rest in
            let place : at + length head ≡ q0 = omega arith in
            let split : spell c ++ rest ≡ head ++ (spell_all r.chunks ++ inside) = ap (λ (z : List ℕ). (head ++ (z ++ c.pad)) ++ rest) (sym joined) ∙ simp append_assoc in
            let start : From (at + length head) (y ++ more) = subst (λ (k : ℕ). From k (y ++ more)) (sym place) (all.0 more low) in
            let tail : splice_from (q0 + length (spell_all r.chunks)) inside more ≡ after ++ splice_from (at + length (spell c)) rest more
            = splice_past (q0 + length (spell_all r.chunks)) after rest more (rw end h) ∙ ap (λ (k : ℕ). after ++ splice_from k rest more) end in
            ap (splice_from at (spell c ++ rest)) (cuts more) ∙ ap (λ (z : List ℕ). splice_from at z (y ++ more)) split
            ∙ splice_past at head (spell_all r.chunks ++ inside) (y ++ more) start
            ∙ ap (λ (k : ℕ). head ++ splice_from k (spell_all r.chunks ++ inside) (y ++ more)) place
            ∙ ap (λ (z : List ℕ). head ++ z) (all.1 inside more low ∙ ap (λ (z : List ℕ). spell_all (map g r.chunks) ++ z) tail)
            ∙ rw made (simp append_assoc);
      }

  atom_turns : (d : ℕ) (p : Place) (at : ℕ) (c : Chunk) → Sound format AtomFine low_prefix d p c → IsBytes c.body → Turns (steps_cuts (walk format d p at c)) at c (mend format (moved_leaf f) d p c)
  unfolding walk mend nested Whole
  atom_turns zero p at c s b = last_turns p at c s.1.0
  atom_turns (suc d) p at c s b =
      opened_turns d (λ q a k t y. atom_turns d q a k t y) p at c (opens p c.id (take 4 c.body)) refl s.1.0 s.0 s.1.1 b (mend_alike format atoms_give_back atom_moves (moved_leaf f) (keeps f) (suc d) p c s.0 b)

  -- an atom of moov
  pub kid_makes : (c : Chunk) → KidOk c → IsBytes c.body → CanMake (kid_cuts f) (relocated f) c
  kid_makes c k b at = let t = atom_turns 5 moov at c k.1.0 b in record { from = t.from; ascend = t.ascend; makes = t.turns }

  no_track : (at : ℕ) (c : Chunk) → is c (codes "trak") ≡ false → kid_cuts f at c ≡ []
  unfolding walk
  no_track at c n = rw n refl

  -- one that is no track
  pub plain_makes : (c : Chunk) → is c (codes "trak") ≡ false → CanMake (kid_cuts f) (relocated f) c
  plain_makes c n at =
      let none : kid_cuts f at c ≡ [] = no_track at c n in
      let same : relocated f c ≡ c = relocated_other f c n in
      let s = stays at c in
      record {
        from = λ more h. rw none (s.from more h);
        ascend = λ more end h. subst (λ (x : List Cut). Ascend at (x ++ more) end) (sym none) (s.ascend more end h);
        makes = λ rest more h. ap (λ (x : List Cut). splice_from at (spell c ++ rest) (x ++ more)) none ∙ s.turns rest more h ∙ ap (λ (d : Chunk). spell d ++ splice_from (at + length (spell c)) rest more) (sym same);
      }
