-- An expression that is read suffix by suffix.
use Rattle.std.proofs.Common.{◌≡◌, ℕ, zero, suc, ◌-◌, ◌≤◌, ◌<◌, Bool, true, false, ◌&&◌, ◌==◌, if◌then◌else◌, List, [], ◌∷◌, length, codes, refl, sym, ap, subst, ◌∙◌, arith, Option, Some, None, is_some}
use Rattle.net_tree.specs.Types.{TypeName}
use Rattle.net_tree.specs.Tree.{Exp, Exps, dot, new_array, no_exps}
use Rattle.net_exprs.specs.Answers.{Misfits}
use Rattle.net_exprs.specs.Names.{name_at}
use Rattle.net_exprs.specs.Readers.{after, behind}
use Rattle.net_exprs.specs.Expressions.{Group, Stage, Suffix, array_made, bounded, braces, braces_behind, braces_or_none, exp_nested, group, group_at, head_at, items, member, no_suffix, object_of, rank, ranked, suffix_by, suffix_of, suffixes, value_of, whole, with_group, with_ranks}
use Rattle.net_tree.specs.Depth.{depth_exp, depth_exps}
use Rattle.net_exprs.specs.Fitting.{fits_exp, fits_exps, fits_in, fits_name, fits_type}
use Rattle.net_exprs.specs.Stages.{array_stage, fits_group, fits_group_in, fits_stage, fits_stage_in, goes_on, goes_on_by, group_depth, group_step, member_step, stage_depth, step_by, suffix_step}
use Rattle.net_exprs.proofs.Answering.{misfits_always, misfits_behind}
use Rattle.net_exprs.proofs.Rooms.{group_deeper, group_holds, is_misfit, misfit_up, too_deep, value_deeper}
use Rattle.net_exprs.proofs.Staging.{more_misfit}
use Rattle.net_exprs.proofs.Words.{by_test, never}

-- ---- one suffix

abbrev Go : Type 0
Go = Stage → List ℕ → Option (Exp × List ℕ)

abbrev ReadGroup : Type 0
ReadGroup = List ℕ → Option (Group × List ℕ)

made_behind : {A : Type 0} (o : Option (A × List ℕ)) (make : A → Stage) (go : Go) → behind o (λ a. go (make a)) ≡ behind (behind o (λ a rest. Some (make a, rest))) go
made_behind None make go = refl
made_behind (Some part) make go = refl

braces_step : (go : Go) (stage : Stage) (s rest : List ℕ) (o : Option Exp) → is_some o ≡ true → braces_behind go stage s rest o ≡ behind (array_stage rest o) go
braces_step go stage s rest None h = never h
braces_step go stage s rest (Some e) h = refl

braces_end : (go : Go) (stage : Stage) (s rest : List ℕ) (o : Option Exp) → is_some o ≡ false → braces_behind go stage s rest o ≡ Some (value_of stage, s)
braces_end go stage s rest None h = refl
braces_end go stage s rest (Some e) h = never (sym h)

one_step : (go : Go) (g : ReadGroup) (stage : Stage) (s : List ℕ) (x : Suffix) → goes_on_by stage x ≡ true → suffix_by go g stage s x ≡ behind (step_by g stage x) go
one_step go g stage s (member rest) h = made_behind (name_at rest) _ go
one_step go g stage s (group rest) h = made_behind (g rest) _ go
one_step go g stage s (braces rest) h = braces_step go stage s rest (array_made stage) h
one_step go g stage s no_suffix h = never h

no_step : (go : Go) (g : ReadGroup) (stage : Stage) (s : List ℕ) (x : Suffix) → goes_on_by stage x ≡ false → suffix_by go g stage s x ≡ Some (value_of stage, s)
no_step go g stage s (member rest) h = never (sym h)
no_step go g stage s (group rest) h = never (sym h)
no_step go g stage s (braces rest) h = braces_end go stage s rest (array_made stage) h
no_step go g stage s no_suffix h = refl

nothing_more : (stage : Stage) → goes_on stage [] ≡ false
unfolding suffix_of
nothing_more stage = refl

-- ---- what fits

and_true : (b : Bool) → b && true ≡ b
and_true true = refl
and_true false = refl

object_fits : (t : TypeName) (ranks : List ℕ) → fits_exp (object_of t ranks) ≡ fits_type t
object_fits t [] = and_true (fits_type t)
object_fits t (r ∷ []) = and_true (fits_type t)
object_fits t (r ∷ q ∷ ranks) = ap (λ b. b && true) (object_fits t (q ∷ ranks)) ∙ and_true (fits_type t)

pub value_fits : (stage : Stage) → fits_exp (value_of stage) ≡ fits_stage stage
value_fits (whole e) = refl
value_fits (ranked t ranks) = object_fits t ranks
value_fits (bounded t [] bounds) = refl
value_fits (bounded t (r ∷ ranks) bounds) = ap (λ b. b && fits_exps bounds) (object_fits t (r ∷ ranks))

pub group_fits : (stage : Stage) (g : Group) → fits_stage (with_group stage g) ≡ (fits_stage stage && fits_group g)
group_fits (whole e) (rank r) = refl
group_fits (whole e) (items es) = refl
group_fits (ranked t ranks) (rank r) = sym (and_true (fits_type t))
group_fits (ranked t ranks) (items es) = refl
group_fits (bounded t ranks bounds) (rank r) = ap (λ b. b && true) (value_fits (bounded t ranks bounds))
group_fits (bounded t ranks bounds) (items es) = ap (λ b. b && fits_exps es) (value_fits (bounded t ranks bounds))

both_false : (a b : Bool) → a ≡ false → a && b ≡ false
both_false a b h = rw h refl

pub second_false : (a b : Bool) → b ≡ false → a && b ≡ false
second_false true b h = h
second_false false b h = refl

array_fits : (t : TypeName) (ranks : List ℕ) (bounds : Exps) → fits_type t && fits_exps bounds ≡ false → fits_exp (new_array (with_ranks t ranks) bounds) ≡ false
array_fits t ranks bounds h = go (fits_type t) refl h
  where
    go : (b : Bool) → fits_type t ≡ b → b && fits_exps bounds ≡ false → fits_type (with_ranks t ranks) && fits_exps bounds ≡ false
    go true e k = second_false (fits_type (with_ranks t ranks)) (fits_exps bounds) k
    go false e k = both_false (fits_type (with_ranks t ranks)) (fits_exps bounds) (more_misfit t ranks e)

array_misfits : (room : ℕ) (stage : Stage) (rest : List ℕ) → fits_stage_in room stage ≡ false → Misfits (fits_stage_in room) (array_stage rest (array_made stage))
array_misfits room (whole e) rest h = tt
array_misfits room (ranked t []) rest h = tt
array_misfits room (ranked t (r ∷ ranks)) rest h =
    misfit_up (fits_type t) (fits_exp (new_array (with_ranks t ranks) no_exps)) 1 (suc room) 1 (suc room) (λ f. array_fits t ranks no_exps (both_false (fits_type t) true f)) (λ l. l) h
array_misfits room (bounded t ranks bounds) rest h =
    misfit_up (fits_type t && fits_exps bounds) (fits_exp (new_array (with_ranks t ranks) bounds)) (suc (depth_exps bounds)) (suc room) (suc (depth_exps bounds)) (suc room) (array_fits t ranks bounds) (λ l. l) h

value_misfits : (room : ℕ) (stage : Stage) → fits_stage_in room stage ≡ false → fits_in (suc room) (value_of stage) ≡ false
value_misfits room stage h =
    misfit_up (fits_stage stage) (fits_exp (value_of stage)) (stage_depth stage) (suc room) (depth_exp (value_of stage)) (suc room) (λ f. value_fits stage ∙ f) (λ l. omega (arith, l, value_deeper stage)) h

-- what doesn't fit so far doesn't fit with a suffix more
step_misfits : (room : ℕ) (g : ReadGroup) (stage : Stage) (x : Suffix) → fits_stage_in room stage ≡ false → Misfits (fits_stage_in room) (step_by g stage x)
step_misfits room g stage (member rest) h =
    misfits_always (fits_stage_in room) (name_at rest) (λ name rest. Some (whole (dot (value_of stage) name), rest)) (λ name rest.
    misfit_up (fits_stage stage) (fits_exp (value_of stage) && fits_name name) (stage_depth stage) (suc room) (suc (depth_exp (value_of stage))) (suc room)
    (λ f. both_false (fits_exp (value_of stage)) (fits_name name) (value_fits stage ∙ f)) (λ l. omega (arith, l, value_deeper stage)) h)
step_misfits room g stage (group rest) h =
    misfits_always (fits_stage_in room) (g rest) (λ x rest. Some (with_group stage x, rest)) (λ x rest.
    misfit_up (fits_stage stage) (fits_stage (with_group stage x)) (stage_depth stage) (suc room) (stage_depth (with_group stage x)) (suc room)
    (λ f. group_fits stage x ∙ both_false (fits_stage stage) (fits_group x) f) (λ l. omega (arith, l, group_deeper stage x)) h)
step_misfits room g stage (braces rest) h = array_misfits room stage rest h
step_misfits room g stage no_suffix h = tt

suffixes_misfit : (room : ℕ) (g : ReadGroup) (n : ℕ) (stage : Stage) (s : List ℕ) → fits_stage_in room stage ≡ false → Misfits (fits_in (suc room)) (suffixes g n stage s)
suffixes_misfit room g zero stage s h = value_misfits room stage h
suffixes_misfit room g (suc n) stage s h = go (goes_on stage s) refl (suffixes_misfit room g n)
  where
    go : (b : Bool) → goes_on stage s ≡ b → ((longer : Stage) (rest : List ℕ) → fits_stage_in room longer ≡ false → Misfits (fits_in (suc room)) (suffixes g n longer rest))
        → Misfits (fits_in (suc room)) (suffix_by (suffixes g n) g stage s (suffix_of s))
    go true e more =
        rw (one_step (suffixes g n) g stage s (suffix_of s) e)
        (misfits_behind (fits_stage_in room) (fits_in (suc room)) (step_by g stage (suffix_of s)) (suffixes g n) more (step_misfits room g stage (suffix_of s) h))
    go false e more = rw (no_step (suffixes g n) g stage s (suffix_of s) e) (value_misfits room stage h)

-- ---- all suffixes

-- a part was read, and what is left goes on with more suffixes or none
pub record SuffixesLeft (g : ReadGroup) (answer : Option (Exp × List ℕ)) (stage : Stage) (rest : List ℕ) : Type 0 where
  pub most : ℕ
  pub long : length rest ≤ most
  pub is : answer ≡ suffixes g most stage rest

nested_room : (room : ℕ) (text : List ℕ) → 0 < room
    → exp_nested room text ≡ behind (head_at (exp_nested (room - 1)) text) (suffixes (group_at (exp_nested (room - 1))) (length text))
nested_room zero text h = absurd (omega arith)
nested_room (suc k) text h =
    let less : k ≡ suc k - 1 = omega arith in
    ap (λ m. behind (head_at (exp_nested m) text) (suffixes (group_at (exp_nested m)) (length text))) less

pub suffixes_begin : (room : ℕ) (text : List ℕ) (stage : Stage) (rest : List ℕ) → 0 < room → head_at (exp_nested (room - 1)) text ≡ Some (stage, rest) → length rest < length text
    → SuffixesLeft (group_at (exp_nested (room - 1))) (exp_nested room text) stage rest
suffixes_begin room text stage rest some h less = record {
  most = length text;
  long = omega (arith, less);
  is = nested_room room text some ∙ ap (λ o. behind o (suffixes (group_at (exp_nested (room - 1))) (length text))) h;
}

pub suffixes_go_on : (g : ReadGroup) (answer : Option (Exp × List ℕ)) (stage : Stage) (rest : List ℕ) (longer : Stage) (beyond : List ℕ) → SuffixesLeft g answer stage rest
    → goes_on stage rest ≡ true → suffix_step g stage rest ≡ Some (longer, beyond) → length beyond < length rest → SuffixesLeft g answer longer beyond
suffixes_go_on g answer stage rest longer beyond left on h less = go left.most left.long left.is
  where
    go : (m : ℕ) → length rest ≤ m → answer ≡ suffixes g m stage rest → SuffixesLeft g answer longer beyond
    go zero long is = absurd (omega (arith, less, long))
    go (suc n) long is = record {
      most = n;
      long = omega (arith, less, long);
      is = is ∙ one_step (suffixes g n) g stage rest (suffix_of rest) on ∙ ap (λ o. behind o (suffixes g n)) h;
    }

pub suffixes_stop : (g : ReadGroup) (answer : Option (Exp × List ℕ)) (stage : Stage) (rest : List ℕ) → SuffixesLeft g answer stage rest → goes_on stage rest ≡ false → answer ≡ Some (value_of stage, rest)
suffixes_stop g answer stage rest left off = left.is ∙ go left.most
  where
    go : (m : ℕ) → suffixes g m stage rest ≡ Some (value_of stage, rest)
    go zero = refl
    go (suc n) = no_step (suffixes g n) g stage rest (suffix_of rest) off

-- the room of a whole, where there is one less in it
in_room : (room : ℕ) (o : Option (Exp × List ℕ)) → 0 < room → Misfits (fits_in (suc (room - 1))) o → Misfits (fits_in room) o
in_room room o some h =
    let same : suc (room - 1) ≡ room = omega (arith, some) in
    subst (λ r. Misfits (fits_in r) o) same h

pub suffixes_misfits : (room : ℕ) (g : ReadGroup) (answer : Option (Exp × List ℕ)) (stage : Stage) (rest : List ℕ) → 0 < room → SuffixesLeft g answer stage rest → goes_on stage rest ≡ true
    → Misfits (fits_stage_in (room - 1)) (suffix_step g stage rest) → Misfits (fits_in room) answer
suffixes_misfits room g answer stage rest some left on h = in_room room answer some (rw left.is (go left.most rest left.long on h))
  where
    go : (m : ℕ) (s : List ℕ) → length s ≤ m → goes_on stage s ≡ true → Misfits (fits_stage_in (room - 1)) (suffix_step g stage s) → Misfits (fits_in (suc (room - 1))) (suffixes g m stage s)
    go zero [] long e k = never (sym (nothing_more stage) ∙ e)
    go zero (c ∷ s) long e k = absurd (omega (arith, long))
    go (suc n) s long e k =
        rw (one_step (suffixes g n) g stage s (suffix_of s) e)
        (misfits_behind (fits_stage_in (room - 1)) (fits_in (suc (room - 1))) (suffix_step g stage s) (suffixes g n) (suffixes_misfit (room - 1) g n) k)

-- the expression that ends there is too deep
pub end_misfits : (room : ℕ) (answer : Option (Exp × List ℕ)) (stage : Stage) (rest : List ℕ) → 0 < room → answer ≡ Some (value_of stage, rest) → suc (room - 1) < depth_exp (value_of stage)
    → Misfits (fits_in room) answer
end_misfits room answer stage rest some h over = in_room room answer some (rw h (too_deep (fits_exp (value_of stage)) (depth_exp (value_of stage)) (suc (room - 1)) over))

pub head_misfits : (room : ℕ) (text : List ℕ) → 0 < room → Misfits (fits_stage_in (room - 1)) (head_at (exp_nested (room - 1)) text) → Misfits (fits_in room) (exp_nested room text)
head_misfits room text some h =
    let g = group_at (exp_nested (room - 1)) in
    in_room room (exp_nested room text) some
    (rw (nested_room room text some)
    (misfits_behind (fits_stage_in (room - 1)) (fits_in (suc (room - 1))) (head_at (exp_nested (room - 1)) text) (suffixes g (length text)) (suffixes_misfit (room - 1) g (length text)) h))

-- ---- which suffix

by_fronts : (point opening braces : Option (List ℕ)) → Suffix
by_fronts (Some s) o b = member s
by_fronts None (Some s) b = group s
by_fronts None None b = braces_or_none b

suffix_fronts : (s : List ℕ) → suffix_of s ≡ by_fronts (after (codes ".") s) (after (codes "(") s) (after (codes " {}") s)
unfolding suffix_of by_fronts
suffix_fronts [] = refl
suffix_fronts (c ∷ s) =
    by_test (c == 46) (λ p. (if p then member s else (if c == 40 then group s else braces_or_none (after (codes " {}") (c ∷ s)))) ≡ by_fronts (if p then Some s else None) (after (codes "(") (c ∷ s)) (after (codes " {}") (c ∷ s)))
    (λ t. refl)
    (λ t. by_test (c == 40) (λ p. (if p then group s else braces_or_none (after (codes " {}") (c ∷ s))) ≡ by_fronts None (if p then Some s else None) (after (codes " {}") (c ∷ s))) (λ u. refl) (λ u. refl))

pub is_member : (s rest : List ℕ) → after (codes ".") s ≡ Some rest → suffix_of s ≡ member rest
unfolding by_fronts
is_member s rest p = suffix_fronts s ∙ ap (λ o. by_fronts o (after (codes "(") s) (after (codes " {}") s)) p

pub is_group : (s rest : List ℕ) → after (codes ".") s ≡ None → after (codes "(") s ≡ Some rest → suffix_of s ≡ group rest
unfolding by_fronts
is_group s rest p q = suffix_fronts s ∙ ap (λ o. by_fronts o (after (codes "(") s) (after (codes " {}") s)) p ∙ ap (λ o. by_fronts None o (after (codes " {}") s)) q

pub is_braces : (s : List ℕ) (o : Option (List ℕ)) → after (codes ".") s ≡ None → after (codes "(") s ≡ None → after (codes " {}") s ≡ o → suffix_of s ≡ braces_or_none o
unfolding by_fronts
is_braces s o p q r = suffix_fronts s ∙ ap (λ o. by_fronts o (after (codes "(") s) (after (codes " {}") s)) p ∙ ap (λ o. by_fronts None o (after (codes " {}") s)) q ∙ ap braces_or_none r

-- ---- parentheses

pub group_misfits : (room : ℕ) (g : ReadGroup) (stage : Stage) (s : List ℕ) → Misfits (fits_group_in room) (g s) → Misfits (fits_stage_in room) (group_step g stage s)
group_misfits room g stage s h =
    misfits_behind (fits_group_in room) (fits_stage_in room) (g s) (λ x rest. Some (with_group stage x, rest)) (λ x rest k.
    misfit_up (fits_group x) (fits_stage (with_group stage x)) (group_depth x) room (stage_depth (with_group stage x)) (suc room)
    (λ f. group_fits stage x ∙ second_false (fits_stage stage) (fits_group x) f) (λ l. omega (arith, l, group_holds stage x)) k) h

pub member_misfits : (room : ℕ) (stage : Stage) (s : List ℕ) → Misfits fits_name (name_at s) → Misfits (fits_stage_in room) (member_step stage s)
member_misfits room stage s h =
    misfits_behind fits_name (fits_stage_in room) (name_at s) (λ name rest. Some (whole (dot (value_of stage) name), rest)) (λ name rest k.
    is_misfit (fits_exp (value_of stage) && fits_name name) (suc (depth_exp (value_of stage))) (suc room) (second_false (fits_exp (value_of stage)) (fits_name name) k)) h

-- ---- suffixes for which there is no room

pub member_too_deep : (room : ℕ) (stage : Stage) (s : List ℕ) → room < depth_exp (value_of stage) → Misfits (fits_stage_in room) (member_step stage s)
member_too_deep room stage s over =
    misfits_always (fits_stage_in room) (name_at s) (λ name rest. Some (whole (dot (value_of stage) name), rest)) (λ name rest.
    too_deep (fits_exp (value_of stage) && fits_name name) (suc (depth_exp (value_of stage))) (suc room) (omega (arith, over)))

pub group_too_deep : (room : ℕ) (g : ReadGroup) (stage : Stage) (s : List ℕ) (x : Group) (rest : List ℕ) → g s ≡ Some (x, rest) → suc room < stage_depth (with_group stage x)
    → Misfits (fits_stage_in room) (group_step g stage s)
group_too_deep room g stage s x rest h over =
    subst (λ o. Misfits (fits_stage_in room) (behind o (λ x rest. Some (with_group stage x, rest)))) (sym h)
    (too_deep (fits_stage (with_group stage x)) (stage_depth (with_group stage x)) (suc room) over)
