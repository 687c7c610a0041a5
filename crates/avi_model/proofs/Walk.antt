-- Where tables and essence stand in the new file: where they stood, moved, and with their numbers written.
use Rattle.std.proofs.Common.{◌≡◌, ℕ, ◌+◌, ◌≤◌, Bool, true, false, List, [], ◌∷◌, ◌++◌, length, map, take, drop, refl, sym, ap, ◌∙◌, arith}
use Rattle.std.specs.Prelude.{◌&&◌, codes}
use Rattle.std.specs.Str.{bytes_eq}
use Rattle.std.specs.List.{flat_map, AllByRecursion}
use Rattle.std.proofs.lemmas.List.{length-append, length-drop, length-take}
use Rattle.container_model.specs.Chunk.{Chunk, Run, ends, spell, spell_all, chunks}
use Rattle.container_model.specs.Sizes.{plain, riff_front}
use Rattle.container_model.specs.Stood.{Stood, stood, only}
use Rattle.container_model.specs.Written.{Write, written}
use Rattle.container_model.proofs.Codec.{IsBytes, IsBytes-drop, chunks_joined}
use Rattle.container_model.proofs.Fronts.{riff_gives_back}
use Rattle.container_model.proofs.Moved.{riff_moves}
use Rattle.container_model.proofs.Written.{Misses, Avoids, renew, renewed, written-drop, written-take, written_clear, chunks_written, misses_in}
use Rattle.container_model.proofs.Copied.{moved_to, Moves_as_one}
use Rattle.container_model.proofs.Stood.{only_map, carried_to, stood_carried}
use Rattle.carrier_model.specs.Info.{own_size, is_type, list_run}
use Rattle.avi_model.specs.Avi.{has_id, kids}

-- a container that is opened: it is read to its end, and no write touches its type or the frames of its chunks
pub record Open (ws : List Write) (x : Stood) : Type 0 where
  pub bytes : IsBytes x.chunk.body
  pub long : 4 ≤ length x.chunk.body
  pub all_read : (list_run x.chunk).stop ≡ ends
  pub on_chunks : AllByRecursion (Avoids (x.at + 12) (list_run x.chunk).chunks (list_run x.chunk).left) ws

-- no write touches the type of a list
abbrev pub TypeStays : List Write → Stood → Type 0
TypeStays ws x = bytes_eq x.chunk.id (codes "LIST") ≡ true → AllByRecursion (Misses (x.at + 8) 4) ws

abbrev pub IsRiffHead : Stood → Type 0
IsRiffHead x = length (Rattle.container_model.specs.Chunk.header_bytes x.chunk.form x.chunk.id (length x.chunk.body)) ≡ 8

pub type_stays : (ws : List Write) (x : Stood) → IsRiffHead x → TypeStays ws x → bytes_eq x.chunk.id (codes "LIST") ≡ true → take 4 (renew ws x.at x.chunk).body ≡ take 4 x.chunk.body
type_stays ws x head h e =
    let q = x.at + Rattle.container_model.proofs.Written.head_length x.chunk in
    written-take ws q 4 x.chunk.body ∙ written_clear ws q (take 4 x.chunk.body) (misses_in (x.at + 8) 4 _ _ ws (omega (arith, head)) (omega (arith, head, length-take 4 x.chunk.body)) (h e))

pub type_same : (w : List ℕ) (f : ℕ → ℕ) (ws : List Write) (x : Stood) → IsRiffHead x → TypeStays ws x → is_type w ((carried_to f ws x).chunk) ≡ is_type w (x.chunk)
type_same w f ws x head h = go (bytes_eq x.chunk.id (codes "LIST")) refl
  where
    go : (t : Bool) → bytes_eq x.chunk.id (codes "LIST") ≡ t → (own_size x.chunk.form && (bytes_eq x.chunk.id (codes "LIST") && bytes_eq (take 4 (renew ws x.at x.chunk).body) w)) ≡ (own_size x.chunk.form && (bytes_eq x.chunk.id (codes "LIST") && bytes_eq (take 4 x.chunk.body) w))
    go true e = ap (λ (y : List ℕ). own_size x.chunk.form && (bytes_eq x.chunk.id (codes "LIST") && bytes_eq y w)) (type_stays ws x head h e)
    go false e = rw e refl

module _ (f : ℕ → ℕ) (Ok : ℕ → Type 0) (ws : List Write) where
  abbrev g : Stood → Stood
  g x = carried_to f ws x

  -- the chunks of a container that moves as one
  kids_carried : (x : Stood) → IsRiffHead x → Open ws x → Moves_as_one f Ok x → (kids (carried_to f ws x) ≡ map (carried_to f ws) (kids x)) × AllByRecursion (Moves_as_one f Ok) (kids x)
  kids_carried x head o r =
      let c = x.chunk in
      let b = drop 4 c.body in
      let run = list_run c in
      let hl : x.at + Rattle.container_model.proofs.Written.head_length c ≡ x.at + 8 = omega (arith, head) in
      let at4 : (x.at + 8) + 4 ≡ x.at + 12 = omega arith in
      let body : drop 4 (renew ws x.at c).body ≡ written ws (x.at + 12) b = written-drop ws (x.at + Rattle.container_model.proofs.Written.head_length c) 4 c.body ∙ ap (λ (k : ℕ). written ws (k + 4) b) hl ∙ ap (λ (k : ℕ). written ws k b) at4 in
      let read : list_run (renew ws x.at c) ≡ record { chunks = renewed ws (x.at + 12) run.chunks; stop = ends; left = run.left } = ap (chunks riff_front plain) body ∙ chunks_written riff_front riff_gives_back riff_moves ws (x.at + 12) plain b (IsBytes-drop 4 c.body o.bytes) o.all_read o.on_chunks in
      let joined = ap length (chunks_joined riff_front riff_gives_back plain b (IsBytes-drop 4 c.body o.bytes)) in
      let fits : 12 + length (spell_all run.chunks) ≤ length (spell c) = omega (arith, head, o.long, joined, length-drop 4 c.body, length-append (spell_all run.chunks) run.left, length-append (Rattle.container_model.specs.Chunk.header_bytes c.form c.id (length c.body)) (c.body ++ c.pad), length-append c.body c.pad) in
      let s = stood_carried f Ok ws x.at (length (spell c)) r 12 run.chunks fits in
      (ap (λ (k : Run). stood (f x.at + 12) k.chunks) read ∙ s.0, s.1)

  pub kids_all : (xs : List Stood) → AllByRecursion IsRiffHead xs → AllByRecursion (Open ws) xs → AllByRecursion (Moves_as_one f Ok) xs
      → (flat_map kids (map (carried_to f ws) xs) ≡ map (carried_to f ws) (flat_map kids xs)) × AllByRecursion (Moves_as_one f Ok) (flat_map kids xs)
  kids_all [] h o r = (refl, tt)
  kids_all (x ∷ xs) h o r =
      let one = kids_carried x h.0 o.0 r.0 in
      let more = kids_all xs h.1 o.1 r.1 in
      (rw (one.0, more.0) (sym (Rattle.container_model.proofs.Copied.map_append (carried_to f ws) (kids x) (flat_map kids xs))), both (kids x) (flat_map kids xs) one.1 more.1)
    where
      both : (a b : List Stood) → AllByRecursion (Moves_as_one f Ok) a → AllByRecursion (Moves_as_one f Ok) b → AllByRecursion (Moves_as_one f Ok) (a ++ b)
      both [] b h g = g
      both (y ∷ a) b h g = (h.0, both a b h.1 g)

  types_same : (w : List ℕ) (xs : List Stood) → AllByRecursion IsRiffHead xs → AllByRecursion (TypeStays ws) xs → AllByRecursion (λ x. is_type w ((carried_to f ws x).chunk) ≡ is_type w (x.chunk)) xs
  types_same w [] h t = tt
  types_same w (x ∷ xs) h t = (type_same w f ws x h.0 t.0, types_same w xs h.1 t.1)

  pub lists_carried : (w : List ℕ) (xs : List Stood) → AllByRecursion IsRiffHead xs → AllByRecursion (TypeStays ws) xs → only (is_type w) (map (carried_to f ws) xs) ≡ map (carried_to f ws) (only (is_type w) xs)
  lists_carried w xs h t = only_map (is_type w) (carried_to f ws) xs (types_same w xs h t)

  pub ids_carried : (id : List ℕ) (xs : List Stood) → only (has_id id) (map (carried_to f ws) xs) ≡ map (carried_to f ws) (only (has_id id) xs)
  ids_carried id xs = only_map (has_id id) (carried_to f ws) xs (all xs)
    where
      all : (xs : List Stood) → AllByRecursion (λ x. has_id id ((carried_to f ws x).chunk) ≡ has_id id (x.chunk)) xs
      all [] = tt
      all (x ∷ xs) = (refl, all xs)
