-- The chunks of a file's streams' lists end with them.
use Rattle.std.proofs.Common.{◌≡◌, ◌∙◌, ℕ, ◌+◌, ◌-◌, List, [], ◌∷◌, ◌++◌, length, map, take, drop, sym, ap, subst, arith}
use Rattle.std.specs.List.{AllByRecursion}
use Rattle.part_tree.specs.declared.names.Span.{Span}
use Rattle.container_model.specs.Chunk.{Run, chunks}
use Rattle.container_model.specs.Sizes.{plain, riff_front}
use Rattle.container_model.specs.Stood.{Stood}
use Rattle.carrier_model.specs.Info.{list_run}
use Rattle.riff_form.specs.Walk.{row}
use Rattle.avi_model.specs.Avi.{avi_of, hdrls, strls}
use Rattle.avi_model.specs.Support.{ListEnds, Supported, infos}
use Rattle.avi_model.proofs.Homes.{AllHome, AtHome, list_home, strls_home}
use Rattle.avi_model.proofs.Sound.{all_left, all_right}
use Rattle.avi_plan.specs.Streams.{StreamsEnd, behind_type}

chunks_are : (b : List ℕ) (x : Stood) → AtHome b x → row b (x.at + 12) (x.at + 12 + (length x.chunk.body - 4)) ≡ list_run x.chunk
chunks_are b x h =
    let n = length x.chunk.body in
    let len : (x.at + 12 + (n - 4)) - (x.at + 12) ≡ n - 4 = omega arith in
    ap (λ (m : ℕ). chunks riff_front plain (take m (drop (x.at + 12) b))) len ∙ ap (chunks riff_front plain) (sym (list_home b x h))

all_end : (b : List ℕ) (xs : List Stood) → AllHome b xs → AllByRecursion ListEnds xs → StreamsEnd b (map behind_type xs)
all_end b [] h g = tt
all_end b (x ∷ xs) h g = (ap (λ (r : Run). r.stop) (chunks_are b x h.0) ∙ g.0, all_end b xs h.1 g.1)

pub streams_end : (b : List ℕ) (streams : List Span) → Supported b → streams ≡ map behind_type (strls (avi_of b)) → StreamsEnd b streams
streams_end b streams s is =
    let a = avi_of b in
    subst (StreamsEnd b) (sym is) (all_end b (strls a) (strls_home b) (all_left ListEnds (strls a) (infos a) (all_right ListEnds (hdrls a) (strls a ++ infos a) s.lists_end)))
