-- Conversions and default members, worked out by hand.
use Rattle.std.proofs.Common.{◌≡◌, ℕ, false, refl, pos}
use Rattle.vb_tree.specs.BoundTree.{Ty, byte, integer, long, str, class, object, nothing, unknown}
use Rattle.vb_tree.specs.declared.value.Value6.TheVariants as v
use Rattle.bound_tree.specs.declared.body.Mention.TheVariants as mention
use Rattle.bound_tree.specs.declared.expression.Origin.TheVariants.{Literal}
use Rattle.bound_tree.specs.Tree.{Expr, typed, constant, variable, call, convert, no_object, of_object, no_passed}
use Rattle.typing_rows.specs.Conversions.{converts, printed}
use Rattle.expression_words.specs.Converting.{plain, wanted}
use Rattle.expression_words.specs.Flaws.{known, unknown, breaks, lacks}
use Rattle.expression_words.proofs.Sample.{D, p, x}

abbrev of : Ty → Expr
of ty = typed ty (variable (x 0) false)

abbrev default : ℕ → Ty → Expr → Expr
default q ty e = typed ty (call (p q) false (of_object e) no_passed)

-- ---- default members

one_link : plain D (of (class 1)) ≡ known (default 1 long (of (class 1)))
one_link = refl

two_links : plain D (of (class 0)) ≡ known (default 1 long (default 0 (class 1) (of (class 0))))
two_links = refl

no_object_there : plain D (of long) ≡ known (of long)
no_object_there = refl

comes_back : plain D (of (class 2)) ≡ unknown (breaks 6)
comes_back = refl

has_none : plain D (of (class 3)) ≡ unknown (breaks 6)
has_none = refl

any_object : plain D (of object) ≡ unknown (breaks 6)
any_object = refl

wants_an_argument : plain D (of (class 4)) ≡ unknown (breaks 18)
wants_an_argument = refl

cannot_be_read : plain D (of (class 5)) ≡ unknown (breaks 3)
cannot_be_read = refl

has_no_type : plain D (of (class 6)) ≡ unknown (lacks (mention.Proc (p 5)))
has_no_type = refl

-- ---- a wanted type

stands : wanted D (λ s. converts s long) (of long) ≡ known (of long)
stands = refl

widened : wanted D (λ s. converts s long) (of integer) ≡ known (typed long (convert long (of integer)))
widened = refl

by_default : wanted D (λ s. converts s integer) (of (class 0)) ≡ known (typed integer (convert integer (default 1 long (default 0 (class 1) (of (class 0))))))
by_default = refl

default_stands : wanted D printed (of (class 1)) ≡ known (default 1 long (of (class 1)))
default_stands = refl

to_an_object : wanted D (λ s. converts s object) (of (class 0)) ≡ known (typed object (convert object (of (class 0))))
to_an_object = refl

no_text : wanted D (λ s. converts s long) (of str) ≡ unknown (breaks 21)
no_text = refl

fits : wanted D (λ s. converts s byte) (typed integer (constant (v.Int (pos 255)) Literal)) ≡ known (typed byte (convert byte (typed integer (constant (v.Int (pos 255)) Literal))))
fits = refl

overflows : wanted D (λ s. converts s byte) (typed integer (constant (v.Int (pos 256)) Literal)) ≡ unknown (breaks 25)
overflows = refl

gives_no_value : wanted D (λ s. converts s object) (typed nothing (call (p 9) false no_object no_passed)) ≡ unknown (breaks 21)
gives_no_value = refl

nothing_to_an_object : wanted D (λ s. converts s object) (typed nothing (constant v.Nothing Literal)) ≡ known (typed object (convert object (typed nothing (constant v.Nothing Literal))))
nothing_to_an_object = refl

without_a_type : wanted D (λ s. converts s long) (of unknown) ≡ known (of unknown)
without_a_type = refl
