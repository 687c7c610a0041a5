-- A file over which numbers are written is as well formed as it was.
use Rattle.std.proofs.Common.{◌≡◌, ℕ, ◌+◌, false, List, [], ◌∷◌, ◌++◌, length, take, refl, ap, ◌∙◌, arith, inl, inr}
use Rattle.std.specs.List.{AllByRecursion}
use Rattle.std.proofs.lemmas.List.{length-append, length-take, nil_from_length}
use Rattle.container_model.specs.Chunk.{Form, riff, Chunk, spell, spell_all, Pads, PadStands}
use Rattle.container_model.specs.Written.{Write, written}
use Rattle.container_model.proofs.Plain.{ArePlain}
use Rattle.container_model.proofs.Written.{Misses, renew, renewed, head_length, length-written, written-take, written_clear, misses_in, renewed_length}
use Rattle.avi_model.specs.Avi.{Avi, inner, behind}
use Rattle.avi_model.proofs.Read.{IsForm, Others, Readable, renewed_avi, others_place}

pad_again : (form : Form) (n m : ℕ) (pad more other : List ℕ) → m ≡ n → length other ≡ length more → PadStands form n pad more → PadStands form m pad other
pad_again form n m pad more other e l (inl h) = rw e (inl h)
pad_again form n m pad more other e l (inr h) = rw e (inr (h.0, nil_from_length other (omega (arith, l, ap length h.1))))

module _ (ws : List Write) where
  pub pads_again : (at : ℕ) (cs : List Chunk) (left : List ℕ) → Pads cs left → Pads (renewed ws at cs) left
  pads_again at [] left h = tt
  pads_again at (c ∷ cs) left h =
      let next = at + length (spell c) in (
        pad_again c.form (length c.body) (length (renew ws at c).body) c.pad (spell_all cs ++ left) (spell_all (renewed ws next cs) ++ left) (length-written ws (at + head_length c) c.body)
            (omega (arith, renewed_length ws next cs, length-append (spell_all (renewed ws next cs)) left, length-append (spell_all cs) left)) h.0,
        pads_again next cs left h.1,
      )

  pub plain_again : (at : ℕ) (cs : List Chunk) → ArePlain cs → ArePlain (renewed ws at cs)
  plain_again at [] h = tt
  plain_again at (c ∷ cs) h = (record { form_is = h.0.form_is; id_len = h.0.id_len }, plain_again (at + length (spell c)) cs h.1)

  -- no write touches the types of the further forms
  abbrev pub TypesStay : ℕ → List Chunk → Type 0
  TypesStay at [] = Unit {0}
  TypesStay at (c ∷ cs) = AllByRecursion (Misses (at + 8) 4) ws × TypesStay (at + length (spell c)) cs

  form_again : (at : ℕ) (c : Chunk) → IsForm false c → AllByRecursion (Misses (at + 8) 4) ws → IsForm false (renew ws at c)
  form_again at c h m =
      let hl : head_length c ≡ 8 = rw (h.form_is, h.id_is) refl in
      let q = at + head_length c in
      let four : take 4 (written ws q c.body) ≡ take 4 c.body = written-take ws q 4 c.body ∙ written_clear ws q (take 4 c.body) (misses_in (at + 8) 4 q (length (take 4 c.body)) ws (omega (arith, hl)) (omega (arith, hl, length-take 4 c.body)) m) in
      let len = length-written ws q c.body in
      record { form_is = h.form_is; id_is = h.id_is; type_is = four ∙ h.type_is; long = omega (arith, len, h.long); small = omega (arith, len, h.small) }

  others_again : (at : ℕ) (cs : List Chunk) → Others cs → TypesStay at cs → Others (renewed ws at cs)
  others_again at [] h m = tt
  others_again at (c ∷ cs) h m = (form_again at c h.0 m.0, others_again (at + length (spell c)) cs h.1 m.1)

  pub renewed_readable : (a : Avi) → Readable a → TypesStay (others_place a) a.others → Readable (renewed_avi ws a)
  renewed_readable a r types =
      let size : length (inner (renewed ws 12 a.children) a.left) ≡ length (inner a.children a.left) = omega (arith, renewed_length ws 12 a.children, length-append (spell_all (renewed ws 12 a.children)) a.left, length-append (spell_all a.children) a.left) in
      let tail : length (behind (renewed_avi ws a)) ≡ length (behind a) = omega (arith, renewed_length ws (others_place a) a.others, length-append (spell_all (renewed ws (others_place a) a.others)) a.tail, length-append (spell_all a.others) a.tail) in
      record {
        plain_chunks = plain_again 12 a.children r.plain_chunks;
        pads = pads_again 12 a.children a.left r.pads;
        few_left = r.few_left;
        form_pad = pad_again riff (length (inner a.children a.left)) (length (inner (renewed ws 12 a.children) a.left)) a.pad (behind a) (behind (renewed_avi ws a)) size tail r.form_pad;
        small = omega (arith, size, r.small);
        others_are = others_again (others_place a) a.others r.others_are types;
        others_pads = pads_again (others_place a) a.others a.tail r.others_pads;
        no_form = r.no_form;
      }
