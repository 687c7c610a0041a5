-- What stands in the essence, with the numbers that are written into it, stands in the new file where its place moves.
use Rattle.std.proofs.Common.{◌≡◌, ℕ, ◌+◌, ◌-◌, ◌≤◌, true, List, [], ◌++◌, length, take, refl, sym, ap, subst, ◌∙◌, arith, inl, inr}
use Rattle.std.specs.Prelude.{◌⊎◌, codes}
use Rattle.std.specs.Int.{w32, to_le_bytes}
use Rattle.std.specs.List.{flat_map, AllByRecursion}
use Rattle.std.proofs.lemmas.List.{length-append, drop_at, take_all}
use Rattle.container_model.specs.Chunk.{spell, spell_all}
use Rattle.container_model.specs.Stood.{Stood, stood, only}
use Rattle.container_model.specs.Written.{slice, Write, written}
use Rattle.container_model.proofs.Codec.{IsBytes}
use Rattle.container_model.proofs.Written.{renewed, renewed_length, length-written}
use Rattle.container_model.proofs.Stay.{Stays, stays_part}
use Rattle.container_model.proofs.Copied.{Moves_as_one}
use Rattle.container_model.proofs.Stood.{Spelled, stood_spelled, renew_at, carried_to, renewed_stood}
use Rattle.avi_model.specs.Avi.{Avi, avi_of, inner, form_of, behind, spell_avi, kids, top, others_at, is_movi, essence}
use Rattle.opendml_index.specs.Index.{move}
use Rattle.avi_model.specs.Index.{writes}
use Rattle.avi_model.specs.Support.{Supported}
use Rattle.avi_model.proofs.Read.{renewed_avi, others_place}
use Rattle.avi_model.proofs.Forms.{file_read}
use Rattle.avi_model.proofs.Walk.{IsRiffHead}
use Rattle.avi_model.proofs.Laid.{IsLaid}
use Rattle.avi_model.proofs.Law.{spelled_stays}
use Rattle.avi_model.proofs.Among.{Among, among_all, among_only, among_append, among_flat, map_among}
use Rattle.avi_model.proofs.Lies.{body_end, kids_inside, kids_heads}
use Rattle.avi_model.proofs.Levels.{Ended, top_heads, further_whole, others_range}
use Rattle.avi_model.proofs.Sound.{ended}
use Rattle.avi_model.proofs.Frames.{over}

module _ (o : List ℕ) (bytes : IsBytes o) (s : Supported o) (f : ℕ → ℕ) (Free : ℕ → Type 0) (after : Avi) (facts : IsLaid o f Free after) where
  abbrev a : Avi
  a = avi_of o

  abbrev ws : List Write
  ws = writes (move f) o

  abbrev b : Avi
  b = renewed_avi ws a

  g : Ended (avi_of o)
  g = ended o bytes s

  -- ---- chunks of the first form

  top_spelled : (x : Avi) → AllByRecursion (Spelled (spell_avi x)) (top x)
  top_spelled x =
      let pre = (codes "RIFF" ++ to_le_bytes w32 (length (inner x.children x.left))) ++ codes "AVI " in
      let post = x.left ++ (x.pad ++ behind x) in
      let split : spell_avi x ≡ pre ++ (spell_all x.children ++ post) = simp Rattle.std.proofs.Common.append_assoc in
      subst (λ (y : List ℕ). AllByRecursion (Spelled y) (stood 12 x.children)) (sym split) (stood_spelled pre x.children post)

  top_stays : (m : Stood) → Among m (top a) → is_movi m.chunk ≡ true → Stays (written ws 0 o) (spell_avi after) f Free m.at (8 + length m.chunk.body)
  top_stays m i t =
      let j = Rattle.avi_model.proofs.Among.only_among is_movi (top a) m i t in
      let moved : Among (carried_to f ws m) (only is_movi (top after)) = subst (λ (xs : List Stood). Among (carried_to f ws m) xs) (sym facts.movis.0) (map_among (carried_to f ws) (only is_movi (top a)) m j) in
      let new_one : Spelled (spell_avi after) (carried_to f ws m) = among_all (Spelled (spell_avi after)) (top after) (top_spelled after) (carried_to f ws m) (among_only is_movi (top after) (carried_to f ws m) moved).0 in
      let there : Among (renew_at ws m) (top b) = subst (λ (xs : List Stood). Among (renew_at ws m) xs) (sym (renewed_stood ws 12 a.children)) (map_among (renew_at ws) (top a) m i) in
      let old_one : Spelled (written ws 0 o) (renew_at ws m) = subst (λ (y : List ℕ). Spelled y (renew_at ws m)) (sym (over o bytes s (move f))) (among_all (Spelled (spell_avi b)) (top b) (top_spelled b) (renew_at ws m) there) in
      let whole = spelled_stays (written ws 0 o) (spell_avi after) f Free ws m old_one new_one (among_all (Moves_as_one f Free) (only is_movi (top a)) facts.movis.1 m j) in
      let z : m.at + 0 ≡ m.at = omega arith in
      let long : 0 + (8 + length m.chunk.body) ≤ length (spell m.chunk) = omega (arith, body_end m (among_all IsRiffHead (top a) (top_heads a g) m i)) in
      rw z at (stays_part (written ws 0 o) (spell_avi after) f Free m.at (length (spell m.chunk)) 0 (8 + length m.chunk.body) long (Rattle.container_model.proofs.Copied.spell_some m.chunk) whole)

  -- ---- the further forms

  last_bytes : (x : Avi) → slice (spell_avi x) (others_place x) (length (behind x)) ≡ behind x
  last_bytes x = ap (take (length (behind x))) (drop_at (spell (form_of x)) (behind x) (length (spell (form_of x))) refl) ∙ take_all (length (behind x)) (behind x) (omega arith)

  behind_same : length (behind b) ≡ length (behind a)
  behind_same = omega (arith, renewed_length ws (others_place a) a.others, length-append (spell_all (renewed ws (others_place a) a.others)) a.tail, length-append (spell_all a.others) a.tail)

  place_same : others_place b ≡ others_place a
  place_same = omega (arith, renewed_length ws 12 a.children, length-append (spell_all (renewed ws 12 a.children)) a.left, length-append (spell_all a.children) a.left, length-append (inner (renewed ws 12 a.children) a.left) a.pad, length-append (inner a.children a.left) a.pad)

  further_stays : Stays (written ws 0 o) (spell_avi after) f Free (others_place a) (length (behind a))
  further_stays =
      let here = facts.past (others_place a) (omega arith) in
      let place : f (others_place a) ≡ others_place after = omega (arith, here.1) in
      let same : behind after ≡ behind b = ap (λ (x : List Rattle.container_model.specs.Chunk.Chunk). spell_all x ++ after.tail) facts.others_are ∙ ap (λ (x : List ℕ). spell_all b.others ++ x) facts.tail_is in
      let now : slice (spell_avi after) (f (others_place a)) (length (behind a)) ≡ behind b
      = ap (λ (k : ℕ). slice (spell_avi after) k (length (behind a))) place ∙ ap (slice (spell_avi after) (others_place after)) (sym behind_same ∙ ap length (sym same)) ∙ last_bytes after ∙ same in
      let then_ : slice (written ws 0 o) (others_place a) (length (behind a)) ≡ behind b
      = ap (λ (x : List ℕ). slice x (others_place a) (length (behind a))) (over o bytes s (move f)) ∙ ap (λ (k : ℕ). slice (spell_avi b) k (length (behind a))) (sym place_same) ∙ ap (slice (spell_avi b) (others_place b)) (sym behind_same) ∙ last_bytes b in
      record {
        lies = omega (arith, length-written ws 0 o, ap length (file_read o bytes s).spelled, length-append (spell (form_of a)) (behind a));
        same = now ∙ sym then_;
        rigid = λ i lt. ((facts.past (others_place a + i) (omega arith)).0, omega (arith, (facts.past (others_place a + i) (omega arith)).1, here.1));
      }

  -- What stands in the essence, with what is written into it, stands in the new file where its place moves.
  pub essence_stays : (m : Stood) → Among m (essence a) → Stays (written ws 0 o) (spell_avi after) f Free m.at (8 + length m.chunk.body)
  essence_stays m i = go (among_append (only is_movi (top a)) (flat_map (λ x. only is_movi (kids x)) (others_at a)) m i)
    where
      go : Among m (only is_movi (top a)) ⊎ Among m (flat_map (λ x. only is_movi (kids x)) (others_at a)) → Stays (written ws 0 o) (spell_avi after) f Free m.at (8 + length m.chunk.body)
      go (inl j) = let z = among_only is_movi (top a) m j in top_stays m z.0 z.1
      go (inr j) =
          let y = among_flat (λ x. only is_movi (kids x)) (others_at a) m j in
          let z = among_only is_movi (kids y.from) m y.in_it in
          let w = further_whole a g y.from y.from_among in
          let k = kids_inside y.from w.bytes w.long m z.0 in
          let r = others_range a g y.from y.from_among in
          let me = body_end m (among_all IsRiffHead (kids y.from) (kids_heads y.from) m z.0) in
          let ye = body_end y.from w.head in
          let back : others_place a + (m.at - others_place a) ≡ m.at = omega (arith, k.0, r.0) in
          let long : (m.at - others_place a) + (8 + length m.chunk.body) ≤ length (behind a) = omega (arith, k.0, k.1, r.0, r.1, me, ye) in
          subst (λ (q : ℕ). Stays (written ws 0 o) (spell_avi after) f Free q (8 + length m.chunk.body)) back
          (stays_part (written ws 0 o) (spell_avi after) f Free (others_place a) (length (behind a)) (m.at - others_place a) (8 + length m.chunk.body) long (omega (arith, long)) further_stays)
