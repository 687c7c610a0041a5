-- Numbers written over the tables of a supported file leave its frames, its padding, its lists of fields and the spans of an edit.
use Rattle.std.proofs.Common.{◌≡◌, ℕ, ◌+◌, ◌≤◌, Bool, true, false, List, [], ◌∷◌, length, take, refl, ap, ◌∙◌, arith, inl, inr}
use Rattle.std.specs.Prelude.{◌⊎◌, ◌&&◌, codes}
use Rattle.std.specs.Str.{bytes_eq}
use Rattle.std.specs.List.{AllByRecursion}
use Rattle.std.proofs.lemmas.List.{length-append}
use Rattle.container_model.specs.Chunk.{Chunk, header_bytes, spell}
use Rattle.container_model.specs.Splice.{Ascend}
use Rattle.container_model.specs.Stood.{Stood, bare, stood}
use Rattle.container_model.specs.Written.{Write, written}
use Rattle.container_model.proofs.Codec.{IsBytes}
use Rattle.container_model.proofs.Written.{Misses, renew, written_clear, All-of}
use Rattle.carrier_model.specs.Info.{own_size, is_padding, is_type}
use Rattle.avi_model.specs.Avi.{Avi, avi_of, form_of, behind, spell_avi, has_id, top, is_movi}
use Rattle.opendml_index.specs.Index.{How}
use Rattle.avi_model.specs.Index.{writes}
use Rattle.avi_model.specs.Support.{Supported}
use Rattle.avi_model.specs.NewFile.{Items, edit_cuts}
use Rattle.avi_model.proofs.Types.{type_is, padding_id, and_none}
use Rattle.avi_model.proofs.Read.{Readable, Frames, renewed_avi, others_place, written_avi}
use Rattle.avi_model.proofs.Forms.{file_read}
use Rattle.avi_model.proofs.Again.{renewed_readable}
use Rattle.avi_model.proofs.Cuts.{ChunkAlone, AllAlone, cuts_same}
use Rattle.avi_model.proofs.Walk.{IsRiffHead, TypeStays, type_stays}
use Rattle.avi_model.proofs.Tables.{Opened}
use Rattle.avi_model.proofs.Past.{edit_ascends}
use Rattle.avi_model.proofs.Among.{Among, among_all}
use Rattle.avi_model.proofs.Lies.{Lies}
use Rattle.avi_model.proofs.Levels.{Ended, top_heads, beside_others}
use Rattle.avi_model.proofs.Clear.{all_opened, all_frames, all_further}
use Rattle.avi_model.proofs.Sound.{ended, writes_lie}

module _ (o : List ℕ) (bytes : IsBytes o) (s : Supported o) (how : How) where
  abbrev a : Avi
  a = avi_of o

  abbrev ws : List Write
  ws = writes how o

  abbrev b : Avi
  b = renewed_avi ws a

  g : Ended (avi_of o)
  g = ended o bytes s

  lie : AllByRecursion (λ w. Lies (avi_of o) w.at (length w.bytes)) (writes how o)
  lie = writes_lie o bytes s how

  pub opened : (e : Items) → Opened (avi_of o) e (writes how o)
  opened e = all_opened a g ws lie e

  pub frames : Frames (writes how o) (avi_of o)
  frames = all_frames a g ws lie

  pub readable : Readable (renewed_avi (writes how o) (avi_of o))
  readable = renewed_readable ws a g.readable (all_further a g ws lie)

  -- ---- padding and the lists of fields are left alone

  untouched : (x : Stood) → Among x (top a) → (is_type (codes "hdrl") x.chunk ≡ false) → (is_movi x.chunk ≡ false) → (has_id (codes "idx1") x.chunk ≡ false) → AllByRecursion (Misses (x.at + 8) (length x.chunk.body)) ws
  untouched x i h m d = All-of (λ w. Lies a w.at (length w.bytes)) (Misses (x.at + 8) (length x.chunk.body)) (λ w l. go w (beside_others a g x i h m d w.at (length w.bytes) l)) ws lie
    where
      go : (w : Write) → (w.at + length w.bytes ≤ x.at) ⊎ (x.at + 8 + length x.chunk.body + 8 ≤ w.at) → Misses (x.at + 8) (length x.chunk.body) w
      go w (inl q) = inl (omega arith)
      go w (inr q) = inr (omega arith)

  same_chunk : (at : ℕ) (c : Chunk) → length (header_bytes c.form c.id (length c.body)) ≡ 8 → AllByRecursion (Misses (at + 8) (length c.body)) ws → renew ws at c ≡ c
  same_chunk at c h m =
      ap (λ (k : ℕ). record c { body = written ws (at + k) c.body }) h ∙ ap (λ (x : List ℕ). record c { body = x }) (written_clear ws (at + 8) c.body m)

  stood_alone : (at : ℕ) (cs : List Chunk) → ((x : Stood) → Among x (stood at cs) → Among x (top a) × IsRiffHead x × TypeStays ws x) → AllAlone ws at cs
  stood_alone at [] h = tt
  stood_alone at (c ∷ cs) h = (one, stood_alone (at + length (spell c)) cs (λ x i. h x (inr i)))
    where
      x : Stood
      x = record { at = at; chunk = bare c }

      k : Among x (top a) × IsRiffHead x × TypeStays ws x
      k = h x (inl refl)

      four : bytes_eq c.id (codes "LIST") ≡ true → take 4 (renew ws at c).body ≡ take 4 c.body
      four t = type_stays ws x k.1 k.2 t

      padding : is_padding c ≡ true → renew ws at c ≡ c
      padding p =
          let id = padding_id c p in
          same_chunk at c k.1 (untouched x k.0 (rw id (and_none (own_size c.form))) (rw id (and_none (own_size c.form))) (rw id refl))

      list : (t : Bool) → is_type (codes "INFO") c ≡ t → (renew ws at c ≡ c) ⊎ ((is_type (codes "INFO") c ≡ false) × (is_type (codes "INFO") (renew ws at c) ≡ false))
      list true t =
          let y = type_is (codes "INFO") c t in
          inl (same_chunk at c k.1 (untouched x k.0 (rw (y.id_is, y.type_is) (and_none (own_size c.form))) (rw (y.id_is, y.type_is) (and_none (own_size c.form))) (rw y.id_is refl)))
      list false t = inr (t, other (bytes_eq c.id (codes "LIST")) refl)
        where
          other : (l : Bool) → bytes_eq c.id (codes "LIST") ≡ l → (own_size c.form && (bytes_eq c.id (codes "LIST") && bytes_eq (take 4 (renew ws at c).body) (codes "INFO"))) ≡ false
          other true l = ap (λ (y : List ℕ). own_size c.form && (bytes_eq c.id (codes "LIST") && bytes_eq y (codes "INFO"))) (four l) ∙ t
          other false l = rw l (and_none (own_size c.form))

      new_home : (l : Bool) → bytes_eq c.id (codes "LIST") ≡ l → (bytes_eq c.id (codes "LIST") && bytes_eq (take 4 (renew ws at c).body) (codes "hdrl")) ≡ (bytes_eq c.id (codes "LIST") && bytes_eq (take 4 c.body) (codes "hdrl"))
      new_home true l = ap (λ (y : List ℕ). bytes_eq c.id (codes "LIST") && bytes_eq y (codes "hdrl")) (four l)
      new_home false l = rw l refl

      one : ChunkAlone ws at c
      one = (padding, (list (is_type (codes "INFO") c) refl, new_home (bytes_eq c.id (codes "LIST")) refl))

  pub alone : AllAlone (writes how o) 12 (avi_of o).children
  alone = stood_alone 12 a.children (λ x i. (i, among_all IsRiffHead (top a) (top_heads a g) x i, among_all (TypeStays ws) (top a) (opened []).top_types x i))

  pub same_cuts : (e : Items) → edit_cuts (renewed_avi (writes how o) (avi_of o)) e ≡ edit_cuts (avi_of o) e
  same_cuts e = cuts_same ws a e alone

  pub others_end : others_place (avi_of o) ≤ length o
  others_end = omega (arith, ap length (file_read o bytes s).spelled, length-append (spell (form_of a)) (behind a))

  pub ascends : (e : Items) → Ascend 0 (edit_cuts (avi_of o) e) (length o)
  ascends e = edit_ascends a e (length o) others_end

  -- the file with the numbers written
  pub over : written (writes how o) 0 o ≡ spell_avi (renewed_avi (writes how o) (avi_of o))
  over = ap (written ws 0) (file_read o bytes s).spelled ∙ written_avi ws a frames

  -- what is read of it
  pub again : avi_of (written (writes how o) 0 o) ≡ renewed_avi (writes how o) (avi_of o)
  again = ap avi_of over ∙ Rattle.avi_model.proofs.Read.avi_again b readable
