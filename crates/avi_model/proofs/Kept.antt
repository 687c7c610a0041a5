-- Clauses 2 and 3 with tables: the fields of the new file are the old ones updated, and what is kept is placed.
use Rattle.std.proofs.Common.{◌≡◌, ℕ, ◌+◌, ◌^◌, ◌<◌, ◌≤◌, Bool, true, false, cond, List, [], ◌∷◌, ◌++◌, length, take, drop, refl, sym, ap, ◌∙◌, arith, inr}
use Rattle.std.specs.Prelude.{codes}
use Rattle.std.specs.Int.{w32, to_le_bytes}
use Rattle.std.specs.List.{AllByRecursion}
use Rattle.std.proofs.lemmas.List.{length-take}
use Rattle.container_model.specs.Chunk.{riff, Chunk, spell}
use Rattle.container_model.specs.Splice.{Cut, shift}
use Rattle.container_model.specs.Stood.{bare, stood, only}
use Rattle.container_model.specs.Written.{Write, written}
use Rattle.container_model.specs.Items.{updated}
use Rattle.container_model.proofs.Codec.{IsBytes}
use Rattle.container_model.proofs.Written.{Misses, written-append, written-take, written-drop, written_clear, All-of}
use Rattle.carrier_model.specs.Info.{is_type, SetsInfo}
use Rattle.avi_model.specs.Avi.{Avi, avi_of, inner, hdrls, strls}
use Rattle.opendml_index.specs.Index.{How, move, blank}
use Rattle.avi_model.specs.Index.{writes}
use Rattle.avi_model.specs.Support.{ListEnds, infos, Supported}
use Rattle.avi_model.specs.NewFile.{Items, new_children, edit_cuts, laid_file}
use Rattle.carrier_model.specs.RiffForm.{with_size}
use Rattle.avi_model.specs.Edited.{info_values}
use Rattle.avi_model.proofs.Read.{renewed_avi}
use Rattle.avi_model.proofs.Forms.{file_read}
use Rattle.avi_model.proofs.Cuts.{size_same}
use Rattle.avi_model.proofs.Edit.{Ready, ready_of}
use Rattle.avi_model.proofs.Fields.{ListsEnd, lists_end, new_fields}
use Rattle.avi_model.proofs.Sound.{all_right}
use Rattle.avi_model.proofs.Frames.{frames, readable, alone, again}

-- the lists of fields, as they stand and as chunks
ends_chunks : (at : ℕ) (cs : List Chunk) → AllByRecursion ListEnds (only (is_type (codes "INFO")) (stood at cs)) → ListsEnd cs
ends_chunks at [] h = tt
ends_chunks at (c ∷ cs) h = go (is_type (codes "INFO") c) refl h (λ g. ends_chunks (at + length (spell c)) cs g)
  where
    go : (t : Bool) → is_type (codes "INFO") c ≡ t → AllByRecursion ListEnds (cond t (record { at = at; chunk = bare c } ∷ only (is_type (codes "INFO")) (stood (at + length (spell c)) cs)) (only (is_type (codes "INFO")) (stood (at + length (spell c)) cs)))
        → (AllByRecursion ListEnds (only (is_type (codes "INFO")) (stood (at + length (spell c)) cs)) → ListsEnd cs) → ListsEnd (c ∷ cs)
    go true e h again = ((λ t. h.0), again h.1)
    go false e h again = ((λ t. absurd cc), again h)

pub lists_of : (o : List ℕ) → Supported o → ListsEnd (avi_of o).children
lists_of o s =
    let a = avi_of o in
    ends_chunks 12 a.children (all_right ListEnds (strls a) (infos a) (all_right ListEnds (hdrls a) (strls a ++ infos a) s.lists_end))

-- writes behind the first eight bytes leave the form's size alone
pub size_written : (ws : List Write) (n : ℕ) (b : List ℕ) → 8 ≤ length b → AllByRecursion (λ w. 8 ≤ w.at) ws → written ws 0 (with_size riff n b) ≡ with_size riff n (written ws 0 b)
size_written ws n b long h =
    let four : length (take 4 b) ≡ 4 = omega (arith, length-take 4 b) in
    let num : length (to_le_bytes w32 n) ≡ 4 = refl in
    let at4 : 0 + length (take 4 b) ≡ 4 = omega (arith, four) in
    let at8 : (0 + length (take 4 b)) + length (to_le_bytes w32 n) ≡ 0 + 8 = omega (arith, four, num) in
    let one : written ws (0 + length (take 4 b)) (to_le_bytes w32 n) ≡ to_le_bytes w32 n
    = written_clear ws (0 + length (take 4 b)) (to_le_bytes w32 n) (All-of (λ w. 8 ≤ w.at) (Misses (0 + length (take 4 b)) (length (to_le_bytes w32 n))) (λ w k. inr (omega (arith, k, four, num))) ws h) in
    let two : written ws ((0 + length (take 4 b)) + length (to_le_bytes w32 n)) (drop 8 b) ≡ drop 8 (written ws 0 b) = ap (λ (q : ℕ). written ws q (drop 8 b)) at8 ∙ sym (written-drop ws 0 8 b) in
    written-append ws 0 (take 4 b) (to_le_bytes w32 n ++ drop 8 b) ∙ ap (λ (x : List ℕ). written ws 0 (take 4 b) ++ x) (written-append ws (0 + length (take 4 b)) (to_le_bytes w32 n) (drop 8 b))
    ∙ ap (λ (x : List ℕ). x ++ (written ws (0 + length (take 4 b)) (to_le_bytes w32 n) ++ written ws ((0 + length (take 4 b)) + length (to_le_bytes w32 n)) (drop 8 b))) (sym (written-take ws 0 4 b))
    ∙ ap (λ (x : List ℕ). take 4 (written ws 0 b) ++ (x ++ written ws ((0 + length (take 4 b)) + length (to_le_bytes w32 n)) (drop 8 b))) one ∙ ap (λ (x : List ℕ). take 4 (written ws 0 b) ++ (to_le_bytes w32 n ++ x)) two

module _ (o : List ℕ) (bytes : IsBytes o) (s : Supported o) (e : Items) (small : length (inner (new_children (renewed_avi (writes (move (shift (edit_cuts (avi_of o) e))) o) (avi_of o)) e) (avi_of o).left) < 2 ^ 32) (sets : SetsInfo e) where
  abbrev a : Avi
  a = avi_of o

  abbrev cs : List Cut
  cs = edit_cuts (avi_of o) e

  abbrev f : ℕ → ℕ
  f = shift (edit_cuts (avi_of o) e)

  abbrev ws : List Write
  ws = writes (move (shift (edit_cuts (avi_of o) e))) o

  abbrev zs : List Write
  zs = writes blank o

  -- ---- the edit is ready, whatever numbers are written

  pub small_by : (how : How) → length (inner (new_children (renewed_avi (writes how o) a) e) a.left) < 2 ^ 32
  small_by how = omega (arith, small, size_same (writes how o) a e (alone o bytes s how), size_same ws a e (alone o bytes s (move f)))

  pub ready_by : (how : How) → Ready (renewed_avi (writes how o) a) e
  ready_by how = ready_of (renewed_avi (writes how o) a) e (small_by how) (lists_end (writes how o) 12 a.children (alone o bytes s how) (lists_of o s))

  -- Clause 2.
  pub fields_updated : (name : List ℕ) → info_values (laid_file o e) name ≡ updated e name (info_values o name)
  fields_updated name = new_fields o e name (file_read o bytes s).spelled (frames o bytes s (move f)) (readable o bytes s (move f)) (alone o bytes s (move f)) small sets (ready_by (move f))
