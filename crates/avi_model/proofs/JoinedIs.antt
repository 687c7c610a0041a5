-- An edit of fields and names lays the first form as the laws need it, as long as no byte of the essence moves towards the start.
use Rattle.std.proofs.Common.{◌≡◌, ℕ, ◌+◌, ◌^◌, ◌<◌, ◌≤◌, List, length, refl, sym, ap, ◌∙◌, arith}
use Rattle.std.proofs.lemmas.List.{length-append}
use Rattle.me_bytes.specs.Bytes.{IsBytes}
use Rattle.container_model.specs.Splice.{shift, Outside}
use Rattle.container_model.specs.Stood.{Stood, only}
use Rattle.opendml_index.specs.Index.{move}
use Rattle.avi_model.specs.After.{Changes, children_after, goes, joined, list_cuts, pad_after}
use Rattle.avi_model.specs.Avi.{Avi, avi_of, inner, is_movi, top}
use Rattle.avi_model.specs.Index.{writes}
use Rattle.avi_model.specs.Named.{name_cuts}
use Rattle.avi_model.specs.Support.{Supported}
use Rattle.avi_model.proofs.Among.{Among}
use Rattle.avi_model.proofs.JoinedCuts.{joined_readable, pad_stays, size_stays}
use Rattle.avi_model.proofs.JoinedGoes.{joined_order, joined_past}
use Rattle.avi_model.proofs.JoinedLaid.{hdrl_small, movis_go, olds_go, streams_go}
use Rattle.avi_model.proofs.Laid.{IsLaid}
use Rattle.avi_model.proofs.Read.{others_place, renewed_avi}

module _ (o : List ℕ) (bytes : IsBytes o) (s : Supported o) (e : Changes) where
  abbrev a : Avi
  a = avi_of o

  abbrev b : Avi
  b = renewed_avi (writes (move (goes (avi_of o) e)) o) (avi_of o)

  -- no byte of the essence moves towards the start
  abbrev pub Grows : Type 0
  Grows = (m : Stood) → Among m (only is_movi (top (avi_of o))) → (p : ℕ) → m.at + 8 ≤ p → p < m.at + 8 + length m.chunk.body → p ≤ goes (avi_of o) e p

  pub joined_laid : length (inner (children_after (renewed_avi (writes (move (goes (avi_of o) e)) o) (avi_of o)) e) (avi_of o).left) < 2 ^ 32 → Grows
      → IsLaid o (goes (avi_of o) e) (λ p. Outside (name_cuts (avi_of o) e.names) p × Outside (list_cuts (avi_of o) e) (shift (name_cuts (avi_of o) e.names) p)) (joined (renewed_avi (writes (move (goes (avi_of o) e)) o) (avi_of o)) e)
  joined_laid small grows =
      let hs = hdrl_small o bytes s e small in
      record {
        order = joined_order o bytes s e;
        readable = joined_readable o bytes s (move (goes (avi_of o) e)) e small;
        others_are = refl;
        tail_is = refl;
        streams = streams_go o bytes s e hs;
        olds = olds_go o bytes s e hs;
        movis = movis_go o bytes s e hs;
        past = λ q le. let z = joined_past o bytes s e q le in (z.0, z.1 ∙ ap (λ (k : ℕ). q + k) (sym place));
        grows = grows;
      }
    where
      place : others_place (joined b e) ≡ others_place (joined a e)
      place =
          let size = size_stays o bytes s (move (goes (avi_of o) e)) e in
          let pad = pad_stays o bytes s (move (goes (avi_of o) e)) e in
          omega (
            arith,
            size,
            ap length pad,
            length-append (inner (children_after b e) a.left) (pad_after b e),
            length-append (inner (children_after a e) a.left) (pad_after a e),
          )
