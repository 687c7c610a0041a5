-- Where a range lies in an AVI file: in an index chunk of a stream, in a movi list, or in idx1; and so at each level in one body.
use Rattle.std.proofs.Common.{◌≡◌, ℕ, ◌+◌, ◌^◌, ◌<◌, ◌≤◌, Bool, true, false, List, [], ◌∷◌, ◌++◌, length, take, drop, refl, sym, ap, subst, ◌∙◌, arith, inl, inr}
use Rattle.std.specs.Prelude.{◌⊎◌, codes}
use Rattle.std.specs.Str.{bytes_eq}
use Rattle.std.specs.List.{flat_map, AllByRecursion}
use Rattle.std.proofs.lemmas.List.{length-append, length-drop}
use Rattle.container_model.specs.Chunk.{Chunk, header_bytes, spell, spell_all, ends}
use Rattle.container_model.specs.Sizes.{plain, riff_front}
use Rattle.container_model.specs.Stood.{Stood, stood}
use Rattle.container_model.proofs.Codec.{IsBytes, IsBytes-drop, IsBytes-behind, chunks_joined}
use Rattle.container_model.proofs.Fronts.{riff_gives_back}
use Rattle.container_model.proofs.Plain.{ArePlain, plain_chunks}
use Rattle.carrier_model.specs.Info.{is_type, list_run}
use Rattle.avi_model.specs.Avi.{Avi, has_id, kids, top, others_at, hdrls, is_movi}
use Rattle.avi_model.proofs.Forms.{body_bytes}
use Rattle.avi_model.proofs.Types.{type_is}
use Rattle.avi_model.proofs.Walk.{IsRiffHead}
use Rattle.avi_model.proofs.Among.{Among, stood_end, stood_inside}

-- ---- a level: chunks and a rest from a place on

-- a range that lies in the body of one of the chunks, behind the type where it is a list; or before or behind them all
pub record InOne (xs : List Stood) (p n : ℕ) : Type 0 where
  pub holder : Stood
  pub holder_among : Among holder xs
  pub low : holder.at + 8 ≤ p
  pub behind_type : bytes_eq holder.chunk.id (codes "LIST") ≡ true → holder.at + 12 ≤ p
  pub high : p + n ≤ holder.at + 8 + length holder.chunk.body

abbrev pub Level : ℕ → List Chunk → List ℕ → ℕ → ℕ → Type 0
Level at cs left p n = InOne (stood at cs) p n ⊎ ((p + n ≤ at) ⊎ (at + length (spell_all cs ++ left) + 8 ≤ p))

-- ---- chunks of lists that are opened

pub record Whole (x : Stood) : Type 0 where
  pub head : IsRiffHead x
  pub bytes : IsBytes x.chunk.body
  pub long : 4 ≤ length x.chunk.body
  pub all_read : (list_run x.chunk).stop ≡ ends

plain_head : (at : ℕ) (cs : List Chunk) → ArePlain cs → AllByRecursion IsRiffHead (stood at cs)
plain_head at [] h = tt
plain_head at (c ∷ cs) h = (one, plain_head (at + length (spell c)) cs h.1)
  where
    one : length (header_bytes c.form c.id (length c.body)) ≡ 8
    one = rw h.0.form_is (omega (arith, length-append c.id (Rattle.std.specs.Int.to_le_bytes Rattle.std.specs.Int.w32 (length c.body)), h.0.id_len))

pub stood_heads : (at : ℕ) (cs : List Chunk) → ArePlain cs → AllByRecursion IsRiffHead (stood at cs)
stood_heads at cs h = plain_head at cs h

pub kids_heads : (x : Stood) → AllByRecursion IsRiffHead (kids x)
kids_heads x = plain_head (x.at + 12) (list_run x.chunk).chunks (plain_chunks (drop 4 x.chunk.body))

-- bodies of bytes are bytes
pub stood_bytes : (at : ℕ) (cs : List Chunk) (left : List ℕ) → IsBytes (spell_all cs ++ left) → AllByRecursion (λ x. IsBytes x.chunk.body) (stood at cs)
stood_bytes at [] left h = tt
stood_bytes at (c ∷ cs) left h =
    let split : (spell c ++ spell_all cs) ++ left ≡ spell c ++ (spell_all cs ++ left) = Rattle.std.proofs.Common.append_assoc (spell c) (spell_all cs) left in
    let b : IsBytes (spell c ++ (spell_all cs ++ left)) = rw split at h in
    (body_bytes c (spell_all cs ++ left) b, stood_bytes (at + length (spell c)) cs left (IsBytes-behind (spell c) (spell_all cs ++ left) b))

pub list_joined : (x : Stood) → IsBytes x.chunk.body → spell_all (list_run x.chunk).chunks ++ (list_run x.chunk).left ≡ drop 4 x.chunk.body
list_joined x h = chunks_joined riff_front riff_gives_back plain (drop 4 x.chunk.body) (IsBytes-drop 4 x.chunk.body h)

pub kids_bytes : (x : Stood) → IsBytes x.chunk.body → AllByRecursion (λ y. IsBytes y.chunk.body) (kids x)
kids_bytes x h = stood_bytes (x.at + 12) (list_run x.chunk).chunks (list_run x.chunk).left (rw (list_joined x h) (IsBytes-drop 4 x.chunk.body h))

-- where the chunks of a list end
pub kids_end : (x : Stood) → IsBytes x.chunk.body → 4 ≤ length x.chunk.body → (x.at + 12) + length (spell_all (list_run x.chunk).chunks ++ (list_run x.chunk).left) ≡ x.at + 8 + length x.chunk.body
kids_end x h l = omega (arith, ap length (list_joined x h), length-drop 4 x.chunk.body)

pub list_long : (w : List ℕ) (x : Stood) → length w ≡ 4 → is_type w x.chunk ≡ true → 4 ≤ length x.chunk.body
list_long w x four h =
    omega (arith, Rattle.std.proofs.lemmas.List.length-take 4 x.chunk.body, ap length (type_is w x.chunk h).type_is)

pub body_end : (x : Stood) → IsRiffHead x → x.at + 8 + length x.chunk.body ≤ stood_end x
body_end x h = omega (arith, h, length-append (header_bytes x.chunk.form x.chunk.id (length x.chunk.body)) (x.chunk.body ++ x.chunk.pad), length-append x.chunk.body x.chunk.pad)

pub kids_inside : (x : Stood) → IsBytes x.chunk.body → 4 ≤ length x.chunk.body → (y : Stood) → Among y (kids x) → (x.at + 12 ≤ y.at) × (stood_end y ≤ x.at + 8 + length x.chunk.body)
kids_inside x h l y i =
    let z = stood_inside (x.at + 12) (list_run x.chunk).chunks y i in
    let e = kids_end x h l in
    (z.0, omega (arith, z.1, e, length-append (spell_all (list_run x.chunk).chunks) (list_run x.chunk).left))

-- ---- where the ranges lie

pub record InStream (a : Avi) (p n : ℕ) : Type 0 where
  pub hdrl : Stood
  pub strl : Stood
  pub chunk : Stood
  pub hdrl_among : Among hdrl (hdrls a)
  pub strl_among : Among strl (kids hdrl)
  pub strl_is : is_type (codes "strl") strl.chunk ≡ true
  pub chunk_among : Among chunk (kids strl)
  pub chunk_is : has_id (codes "indx") chunk.chunk ≡ true
  pub low : chunk.at + 8 ≤ p
  pub high : p + n ≤ chunk.at + 8 + length chunk.chunk.body

pub record InMovi (a : Avi) (p n : ℕ) : Type 0 where
  pub movi : Stood
  pub movi_among : Among movi (top a)
  pub movi_is : is_movi movi.chunk ≡ true
  pub low : movi.at + 12 ≤ p
  pub high : p + n ≤ movi.at + 8 + length movi.chunk.body

pub record InFurther (a : Avi) (p n : ℕ) : Type 0 where
  pub form : Stood
  pub movi : Stood
  pub form_among : Among form (others_at a)
  pub movi_among : Among movi (kids form)
  pub movi_is : is_movi movi.chunk ≡ true
  pub low : movi.at + 12 ≤ p
  pub high : p + n ≤ movi.at + 8 + length movi.chunk.body

pub record InOld (a : Avi) (p n : ℕ) : Type 0 where
  pub chunk : Stood
  pub chunk_among : Among chunk (top a)
  pub chunk_is : has_id (codes "idx1") chunk.chunk ≡ true
  pub low : chunk.at + 8 ≤ p
  pub high : p + n ≤ chunk.at + 8 + length chunk.chunk.body

pub data Lies (a : Avi) (p n : ℕ) : Type 0 where
  in_stream : InStream a p n → Lies a p n
  in_movi : InMovi a p n → Lies a p n
  in_further : InFurther a p n → Lies a p n
  in_old : InOld a p n → Lies a p n
