-- Lists into which numbers are written are lists again, and so are those in the first hdrl.
use Rattle.std.proofs.Common.{◌≡◌, ℕ, ◌+◌, true, false, List, [], ◌∷◌, ◌++◌, length, drop, sym, ap, subst, ◌∙◌, arith}
use Rattle.container_model.specs.Chunk.{Chunk, Run, Pads, spell, spell_all}
use Rattle.container_model.specs.Written.{Write}
use Rattle.container_model.proofs.Written.{renew, renewed}
use Rattle.carrier_model.specs.Info.{list_run}
use Rattle.avi_model.specs.Named.{Names, is_hdrl, is_strl}
use Rattle.avi_model.proofs.Again.{pads_again}
use Rattle.avi_model.proofs.Children.{FirstOpens}
use Rattle.avi_model.proofs.NamesStay.{ChildrenStay, KidsStay, RunStays, renew_long}
use Rattle.avi_model.proofs.Respelled.{IsList}
use Rattle.avi_model.proofs.Streams.{AreKids}

module _ (ws : List Write) where
  -- a list is one again
  abbrev pub SpellsAgain : ℕ → Chunk → Type 0
  SpellsAgain at c = drop 4 (renew ws at c).body ≡ spell_all (renewed ws (at + 12) (list_run c).chunks) ++ (list_run c).left

  pub list_again : (at : ℕ) (c : Chunk) → IsList c → RunStays ws at c → SpellsAgain at c → IsList (renew ws at c)
  list_again at c is run spells = record {
    form_is = is.form_is;
    long = omega (arith, is.long, renew_long ws at c);
    all_read = ap (λ (r : Run). r.stop) run;
    pads = subst (λ (r : Run). Pads r.chunks r.left) (sym run) (pads_again ws (at + 12) (list_run c).chunks (list_run c).left is.pads);
    spelled = ap (λ (r : Run). spell_all r.chunks ++ r.left) run ∙ sym spells;
  }

  module _ (e : Names) where
    -- what is opened spells what it is read as
    abbrev pub KidsSpell : ℕ → List Chunk → Type 0
    KidsSpell at [] = Unit {0}
    KidsSpell at (c ∷ cs) = (is_strl c ≡ true → SpellsAgain at c) × KidsSpell (at + length (spell c)) cs

    kids_again : (at : ℕ) (cs : List Chunk) → AreKids cs → KidsStay ws e at cs → KidsSpell at cs → AreKids (renewed ws at cs)
    kids_again at [] h k s = tt
    kids_again at (c ∷ cs) h k s = (
      record {
        plain = record { form_is = h.0.plain.form_is; id_len = h.0.plain.id_len };
        opens = λ i.
            let t : is_strl c ≡ true = sym k.0.typed ∙ i in
            list_again at c (h.0.opens t) (k.0.opens t).0 (s.0 t);
      },
      kids_again (at + length (spell c)) cs h.1 k.1 s.1,
    )

    abbrev pub ChildrenSpell : ℕ → List Chunk → Type 0
    ChildrenSpell at [] = Unit {0}
    ChildrenSpell at (c ∷ cs) = (is_hdrl c ≡ true → SpellsAgain at c × KidsSpell (at + 12) (list_run c).chunks) × (is_hdrl c ≡ false → ChildrenSpell (at + length (spell c)) cs)

    -- The chunks of the first form with the numbers are chunks with a first hdrl that is opened.
    pub first_again : (at : ℕ) (cs : List Chunk) → FirstOpens cs → ChildrenStay ws e at cs → ChildrenSpell at cs → FirstOpens (renewed ws at cs)
    first_again at [] h k s = tt
    first_again at (c ∷ cs) h k s = (
      λ i.
          let t : is_hdrl c ≡ true = sym k.0 ∙ i in
          let o = h.0 t in
          let y = k.1.0 t in
          let z = s.0 t in
          (list_again at c o.0 y.run z.0, subst (λ (r : Run). AreKids r.chunks) (sym y.run) (kids_again (at + 12) (list_run c).chunks o.1 y.kids z.1)),
      λ i. let t : is_hdrl c ≡ false = sym k.0 ∙ i in first_again (at + length (spell c)) cs (h.1 t) (k.1.1 t) (s.1 t),
    )
