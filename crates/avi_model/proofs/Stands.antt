-- Chunks and tables as they stand in a supported file.
use Rattle.std.proofs.Common.{◌≡◌, ℕ, ◌+◌, ◌-◌, ◌≤◌, List, ◌++◌, length, take, drop, refl, sym, ap, subst, ◌∙◌, append_assoc, arith, inl, inr}
use Rattle.std.specs.Prelude.{◌⊎◌, codes}
use Rattle.std.specs.Int.{w32, to_le_bytes}
use Rattle.std.specs.List.{flat_map, AllByRecursion}
use Rattle.std.proofs.lemmas.List.{drop_at, length-append, length-drop, length-take, take_all, take_at, take-append-drop}
use Rattle.container_model.specs.Chunk.{header_bytes, spell, spell_all}
use Rattle.container_model.specs.Stood.{Stood, stood, only}
use Rattle.container_model.specs.Written.{slice}
use Rattle.container_model.proofs.Codec.{IsBytes}
use Rattle.container_model.proofs.Stood.{Spelled, stood_spelled}
use Rattle.container_model.proofs.Written.{slice_slice}
use Rattle.carrier_model.specs.Info.{list_run}
use Rattle.avi_model.specs.Avi.{Avi, avi_of, inner, form_of, behind, spell_avi, has_id, kids, top, others_at, strls, stream_indexes, old_indexes, is_movi, essence}
use Rattle.container_model.specs.Tables.{Table, table_of, named, size_at}
use Rattle.avi_model.specs.Index.{writes, renumbered, streams, indexes, base, olds, write_index, write_old}
use Rattle.avi_model.specs.Support.{Supported}
use Rattle.avi_model.proofs.Forms.{file_read}
use Rattle.avi_model.proofs.Walk.{IsRiffHead}
use Rattle.avi_model.proofs.Among.{Among, among_all, among_only, among_first, among_append, among_flat, among_map}
use Rattle.avi_model.proofs.Lies.{list_joined, body_end, kids_heads}
use Rattle.avi_model.proofs.Levels.{Ended, top_heads, hdrl_whole, strl_whole, further_whole}
use Rattle.avi_model.proofs.Sound.{ended, named_from}
use Rattle.avi_model.proofs.Same.{AsItStands}

-- ---- chunks as they stand in the file

-- the body of a chunk
pub body_stands : (o : List ℕ) (x : Stood) → Spelled o x → IsRiffHead x → slice o (x.at + 8) (length x.chunk.body) ≡ x.chunk.body
body_stands o x s h =
    let c = x.chunk in
    let head = header_bytes c.form c.id (length c.body) in
    let long = length-append head (c.body ++ c.pad) in
    let body : slice (spell c) 8 (length c.body) ≡ c.body = ap (take (length c.body)) (drop_at head (c.body ++ c.pad) 8 h) ∙ take_at c.body c.pad (length c.body) refl in
    sym (slice_slice o x.at (length (spell c)) 8 (length c.body) (omega (arith, h, long, length-append c.body c.pad))) ∙ ap (λ (y : List ℕ). slice y 8 (length c.body)) s.bytes_are ∙ body

pub kids_stand : (o : List ℕ) (x : Stood) → Spelled o x → IsRiffHead x → IsBytes x.chunk.body → 4 ≤ length x.chunk.body → AllByRecursion (Spelled o) (kids x)
kids_stand o x s h b l =
    let c = x.chunk in
    let run = list_run c in
    let q = x.at + 12 in
    let n = length c.body - 4 in
    let fits : x.at + 8 + length c.body ≤ length o = omega (arith, s.lies, body_end x h) in
    let pre = take q o in
    let rest = drop q o in
    let pre_long : length pre ≡ q = omega (arith, length-take q o, fits, l) in
    let inside : take n rest ≡ spell_all run.chunks ++ run.left
    = ap (λ (k : ℕ). slice o k n) (omega arith) ∙ sym (slice_slice o (x.at + 8) (length c.body) 4 n (omega (arith, l))) ∙ ap (λ (y : List ℕ). slice y 4 n) (body_stands o x s h)
    ∙ take_all n (drop 4 c.body) (omega (arith, length-drop 4 c.body)) ∙ sym (list_joined x b) in
    let post = run.left ++ drop n rest in
    let whole : o ≡ pre ++ (spell_all run.chunks ++ post)
    = sym (take-append-drop q o) ∙ ap (λ (y : List ℕ). pre ++ y) (sym (take-append-drop n rest) ∙ ap (λ (y : List ℕ). y ++ drop n rest) inside ∙ append_assoc (spell_all run.chunks) run.left (drop n rest)) in
    let all = stood_spelled pre run.chunks post in
    subst (λ (k : ℕ). AllByRecursion (Spelled o) (stood k run.chunks)) pre_long (subst (λ (y : List ℕ). AllByRecursion (Spelled y) (stood (length pre) run.chunks)) (sym whole) all)

pub top_stand : (x : Avi) → AllByRecursion (Spelled (spell_avi x)) (top x)
top_stand x =
    let pre = (codes "RIFF" ++ to_le_bytes w32 (length (inner x.children x.left))) ++ codes "AVI " in
    let post = x.left ++ (x.pad ++ behind x) in
    let split : spell_avi x ≡ pre ++ (spell_all x.children ++ post) = simp append_assoc in
    subst (λ (y : List ℕ). AllByRecursion (Spelled y) (stood 12 x.children)) (sym split) (stood_spelled pre x.children post)

others_stand : (x : Avi) → AllByRecursion (Spelled (spell_avi x)) (others_at x)
others_stand x =
    let pre = spell (form_of x) in
    stood_spelled pre x.others x.tail

pub slice_bytes : (b : List ℕ) (p n : ℕ) → IsBytes b → IsBytes (slice b p n)
slice_bytes b p n h = Rattle.container_model.proofs.Fronts.IsBytes-take n (drop p b) (Rattle.container_model.proofs.Codec.IsBytes-drop p b h)

module _ (o : List ℕ) (bytes : IsBytes o) (s : Supported o) where
  abbrev a : Avi
  a = avi_of o

  g : Ended (avi_of o)
  g = ended o bytes s

  pub is_file : o ≡ spell_avi (avi_of o)
  is_file = (file_read o bytes s).spelled

  top_here : AllByRecursion (Spelled o) (top a)
  top_here = subst (λ (y : List ℕ). AllByRecursion (Spelled y) (top a)) (sym is_file) (top_stand a)

  -- ---- the body of each table stands in the file

  stream_stands : (x : Stood) → Among x (stream_indexes a) → AsItStands o (record { at = x.at + 8; bytes = x.chunk.body })
  stream_stands x i =
      let j = among_only (has_id (codes "indx")) (flat_map kids (strls a)) x i in
      let m = among_flat kids (strls a) x j.0 in
      let t = strl_whole a g m.from m.from_among in
      let h = hdrl_whole a g t.0.from t.0.from_among in
      let one = among_all (Spelled o) (kids t.0.from) (kids_stand o t.0.from (among_all (Spelled o) (top a) top_here t.0.from h.0) h.2.head h.2.bytes h.2.long) m.from t.0.in_it in
      let two = among_all (Spelled o) (kids m.from) (kids_stand o m.from one t.2.head t.2.bytes t.2.long) x m.in_it in
      body_stands o x two (among_all IsRiffHead (kids m.from) (kids_heads m.from) x m.in_it)

  named_stands : (p : ℕ) → AsItStands o (record { at = p + 8; bytes = (named o p).body })
  named_stands p = take_len (size_at o p) (drop (p + 8) o)
    where
      take_len : (n : ℕ) (x : List ℕ) → take (length (take n x)) x ≡ take n x
      take_len n x = ap (λ (y : List ℕ). take (length (take n x)) y) (sym (take-append-drop n x)) ∙ take_at (take n x) (drop n x) (length (take n x)) refl

  pub index_stands : (t : Table) → Among t (indexes o) → AsItStands o (record { at = t.at; bytes = t.body })
  index_stands t i = go (among_append (streams o) (flat_map (Rattle.avi_model.specs.Index.named_by o) (streams o)) t i)
    where
      go : Among t (streams o) ⊎ Among t (flat_map (Rattle.avi_model.specs.Index.named_by o) (streams o)) → AsItStands o (record { at = t.at; bytes = t.body })
      go (inl j) = let m = among_map table_of (stream_indexes a) t j in subst (λ (u : Table). AsItStands o (record { at = u.at; bytes = u.body })) m.same (stream_stands m.from m.from_among)
      go (inr j) = let k = named_from o bytes s t j in subst (λ (u : Table). AsItStands o (record { at = u.at; bytes = u.body })) k.is_named (named_stands k.place)

  pub old_stands : (x : Stood) → Among x (old_indexes a) → AsItStands o (record { at = x.at + 8; bytes = x.chunk.body })
  old_stands x i =
      let j = among_only (has_id (codes "idx1")) (top a) x (among_first (only (has_id (codes "idx1")) (top a)) x i) in
      body_stands o x (among_all (Spelled o) (top a) top_here x j.0) (among_all IsRiffHead (top a) (top_heads a g) x j.0)

  pub table_bytes : (at : ℕ) (body : List ℕ) → AsItStands o (record { at = at; bytes = body }) → IsBytes body
  table_bytes at body h = subst IsBytes h (slice_bytes o at (length body) bytes)

  -- ---- the body of each movi list stands in the file

  others_here : AllByRecursion (Spelled o) (others_at a)
  others_here = subst (λ (y : List ℕ). AllByRecursion (Spelled y) (others_at a)) (sym is_file) (others_stand a)

  pub essence_stands : (x : Stood) → Among x (essence a) → AsItStands o (record { at = x.at + 8; bytes = x.chunk.body })
  essence_stands x i = go (among_append (only is_movi (top a)) (flat_map (λ x. only is_movi (kids x)) (others_at a)) x i)
    where
      go : Among x (only is_movi (top a)) ⊎ Among x (flat_map (λ x. only is_movi (kids x)) (others_at a)) → AsItStands o (record { at = x.at + 8; bytes = x.chunk.body })
      go (inl j) =
          let z = among_only is_movi (top a) x j in
          body_stands o x (among_all (Spelled o) (top a) top_here x z.0) (among_all IsRiffHead (top a) (top_heads a g) x z.0)
      go (inr j) =
          let y = among_flat (λ x. only is_movi (kids x)) (others_at a) x j in
          let z = among_only is_movi (kids y.from) x y.in_it in
          let w = further_whole a g y.from y.from_among in
          let one = among_all (Spelled o) (kids y.from) (kids_stand o y.from (among_all (Spelled o) (others_at a) others_here y.from y.from_among) w.head w.bytes w.long) x z.0 in
          body_stands o x one (among_all IsRiffHead (kids y.from) (kids_heads y.from) x z.0)

  -- idx1 ends in the file
  pub old_ends : (x : Stood) → Among x (old_indexes a) → x.at + 8 + length x.chunk.body ≤ length o
  old_ends x i =
      let j = among_only (has_id (codes "idx1")) (top a) x (among_first (only (has_id (codes "idx1")) (top a)) x i) in
      let here = among_all (Spelled o) (top a) top_here x j.0 in
      omega (arith, here.lies, body_end x (among_all IsRiffHead (top a) (top_heads a g) x j.0))
