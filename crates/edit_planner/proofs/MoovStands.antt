-- Where `moov` stands in a movie is what the definitions say.
use Rattle.std.proofs.Common.{◌≡◌, ◌∙◌, ℕ, suc, ◌+◌, ◌-◌, ◌<◌, ◌≤◌, Bool, true, false, cond, eqb, List, [], ◌∷◌, ◌++◌, length, take, drop, refl, sym, ap, subst, arith}
use Rattle.std.specs.Prelude.{◌&&◌}
use Rattle.std.proofs.lemmas.Bool.{eqb-true, ne_eqb}
use Rattle.std.proofs.lemmas.List.{take_rest}
use Rattle.me_bytes.specs.Bytes.{IsBytes}
use Rattle.part_tree.specs.Parts.{count_parts}
use Rattle.part_tree.specs.declared.part.Part.{Part}
use Rattle.container_model.specs.Atoms.{atoms_in}
use Rattle.container_model.specs.Chunk.{Chunk, Form, spell, spell_all}
use Rattle.container_model.specs.Items.{is_nil}
use Rattle.container_model.specs.Windows.{window}
use Rattle.mov_file.specs.Map.{IsMapOf}
use Rattle.mov_file.specs.declared.map.MovMap.{MovMap}
use Rattle.mov_model.specs.Movie.{movie_of}
use Rattle.mov_model.specs.New.{gaps_of, past_gaps}
use Rattle.mov_model.specs.Reading.{inside_at}
use Rattle.mov_model.proofs.Why.{none_supported}
use Rattle.mov_plan.specs.Frame.{IsBehindOf, IsMoovOf}
use Rattle.mov_plan.specs.Edits.{beyond_of}
use Rattle.mov_plan.specs.declared.frame.MoovAt.{MoovAt}
use Rattle.qt_atoms.specs.Walk.{form_of}
use Rattle.edit_planner.specs.MoovMap.{before_at, behind_in, gap_count, gap_end, joined_from, kids_end, tops_in}
use Rattle.edit_planner.proofs.MoovParts.{before_told, ends_inside, ends_last, tops_many_more, behind_told, counts_told, end_told, gaps_lie, gaps_told, last_told, left_long, moov_at, moov_end, others, past_told, tail_at, tops}

-- what is made of a map, whose atoms of moov end at a byte
pub record FromMap (map : MovMap) (end : ℕ) (m : MoovAt) : Type 0 where
  pub at : m.at ≡ map.moov.at
  pub form : m.form ≡ map.moov.form
  pub from : m.from ≡ map.moov.body.at
  pub end_is : m.end ≡ end
  pub left : m.left ≡ map.moov.next - end
  pub goes_on : m.behind.goes_on ≡ eqb m.left 0
  pub gaps : m.behind.gaps ≡ gap_count (behind_in map)
  pub gap : map.moov.next + m.behind.gap ≡ gap_end map.moov.next (behind_in map)
  pub last : m.behind.last ≡ eqb (gap_count (behind_in map)) (length (behind_in map))
  pub others_are : m.others ≡ (before_at map.moov.at (tops_in map) + 1) + count_parts (drop (gap_count (behind_in map)) (behind_in map))
  pub len : m.len ≡ map.len

nil_eqb : (x : List ℕ) → eqb (length x) 0 ≡ is_nil x
nil_eqb [] = refl
nil_eqb (y ∷ x) = ne_eqb (suc (length x)) 0 (λ e. absurd (omega (arith, e)))

module _ (b : List ℕ) (bytes : IsBytes b) (map : MovMap) (known : IsMapOf b map) where
  abbrev sup : Rattle.mov_model.specs.Support.Supported b
  sup = none_supported b known.supported

  abbrev v : Rattle.mov_model.specs.Movie.Movie
  v = movie_of b

  place : map.moov.at ≡ moov_at b bytes sup.readable
  place = sym known.moov.place

  next_is : map.moov.next ≡ moov_end b bytes sup.readable
  next_is = sym known.moov.behind

  tops_is : tops_in map ≡ joined_from 0 (Rattle.mov_model.specs.Map.parts_of b)
  tops_is = ap (joined_from 0) known.parts

  before_is : before_at map.moov.at (tops_in map) ≡ length v.before
  before_is = ap (λ (x : List Part). before_at map.moov.at x) tops_is ∙ ap (λ (n : ℕ). before_at n (joined_from 0 (Rattle.mov_model.specs.Map.parts_of b))) place ∙ before_told b bytes sup.readable

  behind_is : behind_in map ≡ others b bytes sup.readable
  behind_is =
      ap (λ (x : List Part). drop (before_at map.moov.at x + 1) x) tops_is
      ∙ ap (λ (n : ℕ). drop (before_at n (joined_from 0 (Rattle.mov_model.specs.Map.parts_of b)) + 1) (joined_from 0 (Rattle.mov_model.specs.Map.parts_of b))) place
      ∙ behind_told b bytes sup.readable

  abbrev tail : ℕ
  tail = tail_at b bytes sup.readable

  abbrev at_end : ℕ
  at_end = moov_end b bytes sup.readable

  count_is : gap_count (behind_in map) ≡ length (gaps_of v.behind)
  count_is = ap gap_count behind_is ∙ gaps_told tail v.left at_end v.behind

  gaps_end : gap_end map.moov.next (behind_in map) ≡ at_end + length (spell_all (gaps_of v.behind))
  gaps_end = ap (gap_end map.moov.next) behind_is ∙ ap (λ (n : ℕ). gap_end n (others b bytes sup.readable)) next_is ∙ end_told tail v.left at_end v.behind

  -- moov is among them
  pub moov_there : before_at map.moov.at (tops_in map) < length (tops_in map)
  moov_there = omega (arith, before_is, ap length tops_is, tops_many_more b bytes sup.readable)

  pub gaps_low : map.moov.next ≤ gap_end map.moov.next (behind_in map)
  gaps_low = omega (arith, gaps_end, next_is)

  pub gaps_high : gap_end map.moov.next (behind_in map) ≤ map.len
  gaps_high = omega (arith, gaps_end, known.len, ends_inside b bytes sup.readable)

  pub gaps_last : gap_count (behind_in map) ≡ length (behind_in map) → gap_end map.moov.next (behind_in map) ≡ map.len
  gaps_last all = omega (arith, gaps_end, known.len, ends_last b bytes sup.readable (ap gap_count (sym behind_is) ∙ all ∙ ap length behind_is))

  module _ (end : ℕ) (ends : end ≡ kids_end b) (m : MoovAt) (made : FromMap map end m) where
    gap_is : m.behind.gap ≡ length (spell_all (gaps_of v.behind))
    gap_is =
        omega (arith, gaps_end, made.gap, next_is)

    left_is : m.left ≡ length (atoms_in v.movie).left
    left_is = made.left ∙ ap (λ (n : ℕ). n - end) next_is ∙ ap (λ (n : ℕ). at_end - n) ends ∙ left_long b bytes sup.readable

    goes_is : m.behind.goes_on ≡ is_nil (atoms_in v.movie).left
    goes_is = made.goes_on ∙ ap (λ (n : ℕ). eqb n 0) left_is ∙ nil_eqb (atoms_in v.movie).left

    slot_is : m.behind.goes_on ≡ true → window b m.end (m.end + m.behind.gap) ≡ spell_all (gaps_of v.behind)
    slot_is on =
        let none : m.left ≡ 0 = eqb-true m.left 0 (sym made.goes_on ∙ on) in
        let here : m.end ≡ at_end = omega (arith, none, left_is, left_long b bytes sup.readable, made.end_is, ends, made.left, next_is, known.moov.behind, end_inside) in
        ap (λ (n : ℕ). window b n (n + m.behind.gap)) here ∙ ap (λ (n : ℕ). window b at_end (at_end + n)) gap_is ∙ gaps_lie b bytes sup.readable
      where
        end_inside : kids_end b + length (atoms_in v.movie).left ≡ at_end
        end_inside = Rattle.edit_planner.proofs.MoovParts.kids_and_left b bytes sup.readable

    past_is : count_parts (drop (gap_count (behind_in map)) (behind_in map)) ≡ length (past_gaps v.behind)
    past_is =
        ap (λ (x : List Part). count_parts (drop (gap_count x) x)) behind_is
        ∙ ap count_parts (past_told tail v.left at_end v.behind)
        ∙ counts_told tail v.left (at_end + length (spell_all (gaps_of v.behind))) (past_gaps v.behind)

    pub moov_told : IsMoovOf b m
    moov_told = record {
      supported = sup;
      len = made.len ∙ known.len;
      at = made.at ∙ place;
      form = ap form_of made.form ∙ sym (ap (λ (c : Chunk). c.form) known.moov.atom);
      from = made.from ∙ sym (ap (λ (s : Rattle.part_tree.specs.declared.names.Span.Span). s.at) known.moov.body);
      end = made.end_is ∙ ends ∙ ap (λ (n : ℕ). n + length (spell_all (atoms_in v.movie).chunks)) (sym (made.from ∙ sym (ap (λ (s : Rattle.part_tree.specs.declared.names.Span.Span). s.at) known.moov.body)));
      left = left_is;
      behind = record {
        goes_on = goes_is;
        slot = slot_is;
        gaps = made.gaps ∙ count_is;
        last = made.last ∙ ap (λ (x : List Part). eqb (gap_count x) (length x)) behind_is ∙ last_told tail v.left at_end v.behind;
      };
      others = omega (arith, made.others_are, before_is, past_is);
    }

-- the parts behind moov, as they are taken from those of the file
pub slice_is : (map : MovMap) (ps top : List Part) (n : ℕ) → ps ≡ map.parts.items → top ≡ joined_from 0 ps → n ≡ before_at map.moov.at top → take (length top - (n + 1)) (drop (n + 1) top) ≡ behind_in map
slice_is map ps top n e f g =
    take_rest top (n + 1) ∙ ap (λ (k : ℕ). drop (k + 1) top) g ∙ ap (λ (t : List Part). drop (before_at map.moov.at t + 1) t) (f ∙ ap (joined_from 0) e)

pub place_is : (map : MovMap) (ps top : List Part) (n : ℕ) → ps ≡ map.parts.items → top ≡ joined_from 0 ps → n ≡ before_at map.moov.at top → n ≡ before_at map.moov.at (tops_in map)
place_is map ps top n e f g = g ∙ ap (before_at map.moov.at) (f ∙ ap (joined_from 0) e)
