-- An atom whose chunk places are changed is spelled in bytes.
use Rattle.std.proofs.Common.{◌≡◌, ℕ, zero, suc, Bool, true, false, cond, List, [], ◌∷◌, ◌++◌, length, map, take, drop, Option, Some, None, refl, sym, ap, subst, ◌∙◌, ltb}
use Rattle.std.specs.Prelude.{codes}
use Rattle.std.specs.List.{AllByRecursion}
use Rattle.container_model.proofs.Atoms.{atoms_give_back}
use Rattle.container_model.proofs.Codec.{IsBytes, IsBytes-behind, IsBytes-drop, chunks_joined}
use Rattle.container_model.proofs.Deep.{Alike, IsBytes-front, mend_alike}
use Rattle.container_model.proofs.Fronts.{IsBytes-take}
use Rattle.container_model.proofs.Moved.{atom_moves}
use Rattle.container_model.specs.Atoms.{is}
use Rattle.container_model.specs.Chunk.{Chunk, header_bytes, spell, spell_all}
use Rattle.container_model.specs.Deep.{Whole, Whole_at, kids, mend, mend_at}
use Rattle.container_model.specs.Rows.{Width, be32, be64, changed, changed_by}
use Rattle.container_model.specs.Sizes.{atom_front, inside}
use Rattle.mov_model.specs.Atoms.{Place, dinf, file, format, mdia, minf, moov, opens, stbl, trak, user_data}
use Rattle.mov_model.specs.Tables.{moved_leaf, relocated}
use Rattle.mov_model.proofs.Tables.{keeps}
use Rattle.mov_model.proofs.Wide.{eight_bytes, four_bytes, join, none_bytes}
use Rattle.sample_tables.specs.Tables.{count, moved_body}

module _ (f : ℕ → ℕ) where
  changed_bytes : (w : Width) → ((n : ℕ) → IsBytes (w.put n)) → (k : ℕ) (b : List ℕ) → IsBytes b → IsBytes (changed w f k b)
  changed_bytes w put zero b h = h
  changed_bytes w put (suc k) b h = go (ltb (length b) w.bytes) (changed_bytes w put k (drop w.bytes b) (IsBytes-drop w.bytes b h))
    where
      go : (t : Bool) → IsBytes (changed w f k (drop w.bytes b)) → IsBytes (changed_by w f b (changed w f k (drop w.bytes b)) t)
      go true m = h
      go false m = join (w.put (f (w.get (take w.bytes b)))) (changed w f k (drop w.bytes b)) (put (f (w.get (take w.bytes b)))) m

  table_bytes : (c : Chunk) → IsBytes c.body → IsBytes (moved_body f c)
  table_bytes c h = go (is c (codes "stco")) (is c (codes "co64"))
    where
      rows : (w : Width) → ((n : ℕ) → IsBytes (w.put n)) → IsBytes (take 8 c.body ++ changed w f (count c) (drop 8 c.body))
      rows w put = join (take 8 c.body) (changed w f (count c) (drop 8 c.body)) (IsBytes-take 8 c.body h) (changed_bytes w put (count c) (drop 8 c.body) (IsBytes-drop 8 c.body h))

      go : (t u : Bool) → IsBytes (cond t (take 8 c.body ++ changed be32 f (count c) (drop 8 c.body)) (cond u (take 8 c.body ++ changed be64 f (count c) (drop 8 c.body)) c.body))
      go true u = rows be32 four_bytes
      go false true = rows be64 eight_bytes
      go false false = h

  leaf_bytes : (p : Place) (c : Chunk) → IsBytes c.body → IsBytes (moved_leaf f p c)
  leaf_bytes stbl c h = table_bytes c h
  leaf_bytes file c h = h
  leaf_bytes user_data c h = h
  leaf_bytes moov c h = h
  leaf_bytes trak c h = h
  leaf_bytes mdia c h = h
  leaf_bytes minf c h = h
  leaf_bytes dinf c h = h

  -- an atom with another body of bytes, alike otherwise
  spelled_alike : (c d : Chunk) → Alike c d → IsBytes (spell c) → IsBytes d.body → IsBytes (spell d)
  spelled_alike c d a h b =
      let head_c = header_bytes c.form c.id (length c.body) in
      let head : header_bytes d.form d.id (length d.body) ≡ head_c = rw (a.form_is, a.id_is, a.len_is) refl in
      let behind = IsBytes-behind head_c (c.body ++ c.pad) h in
      subst IsBytes (sym (ap (λ (x : List ℕ). x ++ (d.body ++ d.pad)) head ∙ ap (λ (x : List ℕ). head_c ++ (d.body ++ x)) a.pad_is)) (join head_c (d.body ++ c.pad) (IsBytes-front head_c (c.body ++ c.pad) h) (join d.body c.pad b (IsBytes-behind c.body c.pad behind)))

  body_of : (c : Chunk) → IsBytes (spell c) → IsBytes c.body
  body_of c h = IsBytes-front c.body c.pad (IsBytes-behind (header_bytes c.form c.id (length c.body)) (c.body ++ c.pad) h)

  pub all_bytes : (g : Chunk → Chunk) (W : Chunk → Type 0) → ((c : Chunk) → W c → IsBytes (spell c) → IsBytes (spell (g c))) → (cs : List Chunk) → AllByRecursion W cs → IsBytes (spell_all cs) → IsBytes (spell_all (map g cs))
  all_bytes g W each [] w h = none_bytes
  all_bytes g W each (c ∷ cs) w h = join (spell (g c)) (spell_all (map g cs)) (each c w.0 (IsBytes-front (spell c) (spell_all cs) h)) (all_bytes g W each cs w.1 (IsBytes-behind (spell c) (spell_all cs) h))

  at_body : (d : ℕ) → ((q : Place) (c : Chunk) → Whole format d q c → IsBytes (spell c) → IsBytes (spell (mend format (moved_leaf f) d q c))) → (p : Place) (c : Chunk) (o : Option Place) → Whole_at format (Whole format d) c o → IsBytes (spell c)
      → IsBytes (mend_at format (moved_leaf f) (mend format (moved_leaf f) d) p c o).body
  at_body d each p c None w h = leaf_bytes p c (body_of c h)
  at_body d each p c (Some q) w h =
      let k = kids format q c in
      let all : IsBytes (spell_all k.chunks ++ k.left) = subst IsBytes (sym (chunks_joined atom_front atoms_give_back inside c.body (body_of c h))) (body_of c h) in
      join (spell_all (map (mend format (moved_leaf f) d q) k.chunks)) k.left (all_bytes (mend format (moved_leaf f) d q) (Whole format d q) (each q) k.chunks w.2 (IsBytes-front (spell_all k.chunks) k.left all)) (IsBytes-behind (spell_all k.chunks) k.left all)

  mend_bytes : (d : ℕ) (p : Place) (c : Chunk) → Whole format d p c → IsBytes (spell c) → IsBytes (spell (mend format (moved_leaf f) d p c))
  unfolding mend Whole
  mend_bytes zero p c w h = spelled_alike c (mend format (moved_leaf f) zero p c) (mend_alike format atoms_give_back atom_moves (moved_leaf f) (keeps f) zero p c w (body_of c h)) h (leaf_bytes p c (body_of c h))
  mend_bytes (suc d) p c w h =
      spelled_alike c (mend format (moved_leaf f) (suc d) p c) (mend_alike format atoms_give_back atom_moves (moved_leaf f) (keeps f) (suc d) p c w (body_of c h)) h
      (at_body d (λ q k x b. mend_bytes d q k x b) p c (opens p c.id (take 4 c.body)) w h)

  pub relocated_bytes : (cs : List Chunk) → AllByRecursion (Whole format 5 moov) cs → IsBytes (spell_all cs) → IsBytes (spell_all (map (relocated f) cs))
  relocated_bytes cs w h = all_bytes (relocated f) (Whole format 5 moov) (mend_bytes 5 moov) cs w h
