-- What a step makes, by what stands on the stack.
use Rattle.std.proofs.Common.{◌≡◌, refl, sym, ap, ◌∙◌}
use Rattle.std.specs.Prelude.{Some, List, ℕ}
use Rattle.net_tree.specs.Tree.{Dim, Exp, Exps, Line}
use Rattle.net_tree.specs.Tree as net
use Rattle.net_tree.specs.Types as types
use Rattle.support_text.specs.declared.step.Arguments.{Arguments}
use Rattle.support_text.specs.declared.step.Arguments.TheVariants.{Zero, One, Two}
use Rattle.support_text.specs.declared.step.SimpleType.{SimpleType}
use Rattle.support_text.specs.Steps.{Made, pushed, popped, with_line, with_dim, with_arguments, Stand, on_one, on_two, line_of_one, called, created, call_line, local_of, simple_type}

pub one_made : (f : Exp → Exp) (m rest after : Made) (a e : Exp) → m ≡ pushed a rest → e ≡ f a → after ≡ pushed e rest → on_one f m ≡ Some after
unfolding on_one
one_made f m rest after a e was is now = ap (λ x. on_one f x) was ∙ ap (λ x. Some (pushed x rest)) (sym is) ∙ ap Some (sym now)

pub two_made : (f : Exp → Exp → Exp) (m mid rest after : Made) (a b e : Exp) → m ≡ pushed b mid → mid ≡ pushed a rest → e ≡ f a b → after ≡ pushed e rest → on_two f m ≡ Some after
unfolding on_two
two_made f m mid rest after a b e was had is now =
    ap (λ x. on_two f x) was
    ∙ ap (λ x. popped (λ c low. Some (pushed (f c b) low)) x) had
    ∙ ap (λ x. Some (pushed x rest)) (sym is)
    ∙ ap Some (sym now)

pub line_made : (f : Exp → Line) (m rest after : Made) (a : Exp) (l : Line) → m ≡ pushed a rest → l ≡ f a → after ≡ with_line l rest → line_of_one f m ≡ Some after
unfolding line_of_one
line_made f m rest after a l was is now = ap (λ x. line_of_one f x) was ∙ ap (λ x. Some (with_line x rest)) (sym is) ∙ ap Some (sym now)

pub local_made : (name : List ℕ) (t : SimpleType) (m rest after : Made) (a : Exp) (d : Dim) → m ≡ pushed a rest → d ≡ net.local (record { name = name; ty = simple_type t; value = Some a }) → after ≡ with_dim d rest → local_of name t m ≡ Some after
unfolding local_of
local_made name t m rest after a d was is now = ap (λ x. local_of name t x) was ∙ ap (λ x. Some (with_dim x rest)) (sym is) ∙ ap Some (sym now)

pub none_stands : (count : Arguments) (m : Made) (args : Exps) → count ≡ Zero → args ≡ net.no_exps → Stand count m args m
unfolding with_arguments
none_stands count m args is none go = ap (λ n. with_arguments n go m) is ∙ ap (λ x. go x m) (sym none)

pub one_stands : (m rest : Made) (a : Exp) (args : Exps) → m ≡ pushed a rest → args ≡ net.next_exp a net.no_exps → Stand One m args rest
unfolding with_arguments
one_stands m rest a args was is go = ap (λ x. with_arguments One go x) was ∙ ap (λ x. go x rest) (sym is)

pub two_stand : (m mid rest : Made) (a b : Exp) (args : Exps) → m ≡ pushed b mid → mid ≡ pushed a rest → args ≡ net.next_exp a (net.next_exp b net.no_exps) → Stand Two m args rest
unfolding with_arguments
two_stand m mid rest a b args was had is go =
    ap (λ x. with_arguments Two go x) was
    ∙ ap (λ x. popped (λ c. go (net.next_exp c (net.next_exp b net.no_exps))) x) had
    ∙ ap (λ x. go x rest) (sym is)

pub call_made : (count : Arguments) (m mid rest after : Made) (args : Exps) (callee e : Exp) → Stand count m args mid → mid ≡ pushed callee rest → e ≡ net.call_of callee args → after ≡ pushed e rest → called count m ≡ Some after
unfolding called
call_made count m mid rest after args callee e stand had is now =
    stand (λ xs. popped (λ c low. Some (pushed (net.call_of c xs) low)))
    ∙ ap (λ x. popped (λ c low. Some (pushed (net.call_of c args) low)) x) had
    ∙ ap (λ x. Some (pushed x rest)) (sym is)
    ∙ ap Some (sym now)

pub call_line_made : (count : Arguments) (m mid rest after : Made) (args : Exps) (callee : Exp) (l : Line) → Stand count m args mid → mid ≡ pushed callee rest → l ≡ net.call callee args → after ≡ with_line l rest → call_line count m ≡ Some after
unfolding call_line
call_line_made count m mid rest after args callee l stand had is now =
    stand (λ xs. popped (λ c low. Some (with_line (net.call c xs) low)))
    ∙ ap (λ x. popped (λ c low. Some (with_line (net.call c args) low)) x) had
    ∙ ap (λ x. Some (with_line x rest)) (sym is)
    ∙ ap Some (sym now)

pub object_made : (class path : List (List ℕ)) (count : Arguments) (m rest after : Made) (args : Exps) (e : Exp) → path ≡ class → Stand count m args rest → e ≡ net.new_object (types.named path) args → after ≡ pushed e rest → created class count m ≡ Some after
unfolding created
object_made class path count m rest after args e same stand is now =
    stand (λ xs low. Some (pushed (net.new_object (types.named class) xs) low))
    ∙ ap (λ p. Some (pushed (net.new_object (types.named p) args) rest)) (sym same)
    ∙ ap (λ x. Some (pushed x rest)) (sym is)
    ∙ ap Some (sym now)
