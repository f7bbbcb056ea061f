-- What a first token is by its class.
use Rattle.std.proofs.Common.{◌≡◌, ℕ, List, ◌∷◌, refl, sym, ap, ◌∙◌, Option, Bool, false, is_some}
use Rattle.vb_tree.specs.declared.token.Token.{Token}
use Rattle.vb_tree.specs.declared.expression.BinOp.{BinOp}
use Rattle.vb_tree.specs.Expressions.{Symbol, leaf, literal, naming, constant, self, new_word, type_of_word, address_of_word, by_val_word, not_word, operator, reserved_word, access, opening, closing, comma, assign, hash, other, symbols, symbol_of, Naming, name_of, name_in}
use Rattle.vb_exprs.specs.declared.token_class.Class.{Class}
use Rattle.vb_exprs.specs.declared.token_class.Class.TheVariants as c
use Rattle.vb_exprs.specs.TokenClass.{class_of}
use Rattle.vb_exprs.specs.Reading.{IsMark}

pub closing_symbol : (s : Symbol) → class_of s ≡ c.Closing → s ≡ closing
closing_symbol (leaf (literal l)) e = absurd (cc)
closing_symbol (leaf (naming n)) e = absurd (cc)
closing_symbol (leaf (constant n x)) e = absurd (cc)
closing_symbol (leaf (self n)) e = absurd (cc)
closing_symbol (new_word n) e = absurd (cc)
closing_symbol (type_of_word n) e = absurd (cc)
closing_symbol (address_of_word n) e = absurd (cc)
closing_symbol (by_val_word n) e = absurd (cc)
closing_symbol (not_word n) e = absurd (cc)
closing_symbol (operator op w) e = absurd (cc)
closing_symbol (reserved_word n) e = absurd (cc)
closing_symbol (access bang) e = absurd (cc)
closing_symbol opening e = absurd (cc)
closing_symbol closing e = refl
closing_symbol comma e = absurd (cc)
closing_symbol assign e = absurd (cc)
closing_symbol hash e = absurd (cc)
closing_symbol other e = absurd (cc)

pub comma_symbol : (s : Symbol) → class_of s ≡ c.Comma → s ≡ comma
comma_symbol (leaf (literal l)) e = absurd (cc)
comma_symbol (leaf (naming n)) e = absurd (cc)
comma_symbol (leaf (constant n x)) e = absurd (cc)
comma_symbol (leaf (self n)) e = absurd (cc)
comma_symbol (new_word n) e = absurd (cc)
comma_symbol (type_of_word n) e = absurd (cc)
comma_symbol (address_of_word n) e = absurd (cc)
comma_symbol (by_val_word n) e = absurd (cc)
comma_symbol (not_word n) e = absurd (cc)
comma_symbol (operator op w) e = absurd (cc)
comma_symbol (reserved_word n) e = absurd (cc)
comma_symbol (access bang) e = absurd (cc)
comma_symbol opening e = absurd (cc)
comma_symbol closing e = absurd (cc)
comma_symbol comma e = refl
comma_symbol assign e = absurd (cc)
comma_symbol hash e = absurd (cc)
comma_symbol other e = absurd (cc)

pub assign_symbol : (s : Symbol) → class_of s ≡ c.Assign → s ≡ assign
assign_symbol (leaf (literal l)) e = absurd (cc)
assign_symbol (leaf (naming n)) e = absurd (cc)
assign_symbol (leaf (constant n x)) e = absurd (cc)
assign_symbol (leaf (self n)) e = absurd (cc)
assign_symbol (new_word n) e = absurd (cc)
assign_symbol (type_of_word n) e = absurd (cc)
assign_symbol (address_of_word n) e = absurd (cc)
assign_symbol (by_val_word n) e = absurd (cc)
assign_symbol (not_word n) e = absurd (cc)
assign_symbol (operator op w) e = absurd (cc)
assign_symbol (reserved_word n) e = absurd (cc)
assign_symbol (access bang) e = absurd (cc)
assign_symbol opening e = absurd (cc)
assign_symbol closing e = absurd (cc)
assign_symbol comma e = absurd (cc)
assign_symbol assign e = refl
assign_symbol hash e = absurd (cc)
assign_symbol other e = absurd (cc)

pub hash_symbol : (s : Symbol) → class_of s ≡ c.Hash → s ≡ hash
hash_symbol (leaf (literal l)) e = absurd (cc)
hash_symbol (leaf (naming n)) e = absurd (cc)
hash_symbol (leaf (constant n x)) e = absurd (cc)
hash_symbol (leaf (self n)) e = absurd (cc)
hash_symbol (new_word n) e = absurd (cc)
hash_symbol (type_of_word n) e = absurd (cc)
hash_symbol (address_of_word n) e = absurd (cc)
hash_symbol (by_val_word n) e = absurd (cc)
hash_symbol (not_word n) e = absurd (cc)
hash_symbol (operator op w) e = absurd (cc)
hash_symbol (reserved_word n) e = absurd (cc)
hash_symbol (access bang) e = absurd (cc)
hash_symbol opening e = absurd (cc)
hash_symbol closing e = absurd (cc)
hash_symbol comma e = absurd (cc)
hash_symbol assign e = absurd (cc)
hash_symbol hash e = refl
hash_symbol other e = absurd (cc)

pub naming_symbol : (s : Symbol) → class_of s ≡ c.Naming → (n : Naming) × (s ≡ leaf (naming n))
naming_symbol (leaf (literal l)) e = absurd (cc)
naming_symbol (leaf (naming n)) e = (n, refl)
naming_symbol (leaf (constant n x)) e = absurd (cc)
naming_symbol (leaf (self n)) e = absurd (cc)
naming_symbol (new_word n) e = absurd (cc)
naming_symbol (type_of_word n) e = absurd (cc)
naming_symbol (address_of_word n) e = absurd (cc)
naming_symbol (by_val_word n) e = absurd (cc)
naming_symbol (not_word n) e = absurd (cc)
naming_symbol (operator op w) e = absurd (cc)
naming_symbol (reserved_word n) e = absurd (cc)
naming_symbol (access bang) e = absurd (cc)
naming_symbol opening e = absurd (cc)
naming_symbol closing e = absurd (cc)
naming_symbol comma e = absurd (cc)
naming_symbol assign e = absurd (cc)
naming_symbol hash e = absurd (cc)
naming_symbol other e = absurd (cc)

pub by_val_symbol : (s : Symbol) → class_of s ≡ c.ByVal → (n : List ℕ) × (s ≡ by_val_word n)
by_val_symbol (leaf (literal l)) e = absurd (cc)
by_val_symbol (leaf (naming n)) e = absurd (cc)
by_val_symbol (leaf (constant n x)) e = absurd (cc)
by_val_symbol (leaf (self n)) e = absurd (cc)
by_val_symbol (new_word n) e = absurd (cc)
by_val_symbol (type_of_word n) e = absurd (cc)
by_val_symbol (address_of_word n) e = absurd (cc)
by_val_symbol (by_val_word n) e = (n, refl)
by_val_symbol (not_word n) e = absurd (cc)
by_val_symbol (operator op w) e = absurd (cc)
by_val_symbol (reserved_word n) e = absurd (cc)
by_val_symbol (access bang) e = absurd (cc)
by_val_symbol opening e = absurd (cc)
by_val_symbol closing e = absurd (cc)
by_val_symbol comma e = absurd (cc)
by_val_symbol assign e = absurd (cc)
by_val_symbol hash e = absurd (cc)
by_val_symbol other e = absurd (cc)

pub new_symbol : (s : Symbol) → class_of s ≡ c.New → (n : List ℕ) × (s ≡ new_word n)
new_symbol (leaf (literal l)) e = absurd (cc)
new_symbol (leaf (naming n)) e = absurd (cc)
new_symbol (leaf (constant n x)) e = absurd (cc)
new_symbol (leaf (self n)) e = absurd (cc)
new_symbol (new_word n) e = (n, refl)
new_symbol (type_of_word n) e = absurd (cc)
new_symbol (address_of_word n) e = absurd (cc)
new_symbol (by_val_word n) e = absurd (cc)
new_symbol (not_word n) e = absurd (cc)
new_symbol (operator op w) e = absurd (cc)
new_symbol (reserved_word n) e = absurd (cc)
new_symbol (access bang) e = absurd (cc)
new_symbol opening e = absurd (cc)
new_symbol closing e = absurd (cc)
new_symbol comma e = absurd (cc)
new_symbol assign e = absurd (cc)
new_symbol hash e = absurd (cc)
new_symbol other e = absurd (cc)

pub type_of_symbol : (s : Symbol) → class_of s ≡ c.TypeOf → (n : List ℕ) × (s ≡ type_of_word n)
type_of_symbol (leaf (literal l)) e = absurd (cc)
type_of_symbol (leaf (naming n)) e = absurd (cc)
type_of_symbol (leaf (constant n x)) e = absurd (cc)
type_of_symbol (leaf (self n)) e = absurd (cc)
type_of_symbol (new_word n) e = absurd (cc)
type_of_symbol (type_of_word n) e = (n, refl)
type_of_symbol (address_of_word n) e = absurd (cc)
type_of_symbol (by_val_word n) e = absurd (cc)
type_of_symbol (not_word n) e = absurd (cc)
type_of_symbol (operator op w) e = absurd (cc)
type_of_symbol (reserved_word n) e = absurd (cc)
type_of_symbol (access bang) e = absurd (cc)
type_of_symbol opening e = absurd (cc)
type_of_symbol closing e = absurd (cc)
type_of_symbol comma e = absurd (cc)
type_of_symbol assign e = absurd (cc)
type_of_symbol hash e = absurd (cc)
type_of_symbol other e = absurd (cc)

pub not_symbol : (s : Symbol) → class_of s ≡ c.Not → (n : List ℕ) × (s ≡ not_word n)
not_symbol (leaf (literal l)) e = absurd (cc)
not_symbol (leaf (naming n)) e = absurd (cc)
not_symbol (leaf (constant n x)) e = absurd (cc)
not_symbol (leaf (self n)) e = absurd (cc)
not_symbol (new_word n) e = absurd (cc)
not_symbol (type_of_word n) e = absurd (cc)
not_symbol (address_of_word n) e = absurd (cc)
not_symbol (by_val_word n) e = absurd (cc)
not_symbol (not_word n) e = (n, refl)
not_symbol (operator op w) e = absurd (cc)
not_symbol (reserved_word n) e = absurd (cc)
not_symbol (access bang) e = absurd (cc)
not_symbol opening e = absurd (cc)
not_symbol closing e = absurd (cc)
not_symbol comma e = absurd (cc)
not_symbol assign e = absurd (cc)
not_symbol hash e = absurd (cc)
not_symbol other e = absurd (cc)

pub access_symbol : (s : Symbol) (bang : Bool) → class_of s ≡ c.Access bang → s ≡ access bang
access_symbol (leaf (literal l)) bang e = absurd (cc)
access_symbol (leaf (naming n)) bang e = absurd (cc)
access_symbol (leaf (constant n x)) bang e = absurd (cc)
access_symbol (leaf (self n)) bang e = absurd (cc)
access_symbol (new_word n) bang e = absurd (cc)
access_symbol (type_of_word n) bang e = absurd (cc)
access_symbol (address_of_word n) bang e = absurd (cc)
access_symbol (by_val_word n) bang e = absurd (cc)
access_symbol (not_word n) bang e = absurd (cc)
access_symbol (operator op w) bang e = absurd (cc)
access_symbol (reserved_word n) bang e = absurd (cc)
access_symbol (access bang) b e = cc
access_symbol opening bang e = absurd (cc)
access_symbol closing bang e = absurd (cc)
access_symbol comma bang e = absurd (cc)
access_symbol assign bang e = absurd (cc)
access_symbol hash bang e = absurd (cc)
access_symbol other bang e = absurd (cc)

pub operator_symbol : (s : Symbol) (op : BinOp) (is_word : Bool) → class_of s ≡ c.Operator op is_word → (w : Option (List ℕ)) × (s ≡ operator op w) × (is_some w ≡ is_word)
operator_symbol (leaf (literal l)) op is_word e = absurd (cc)
operator_symbol (leaf (naming n)) op is_word e = absurd (cc)
operator_symbol (leaf (constant n x)) op is_word e = absurd (cc)
operator_symbol (leaf (self n)) op is_word e = absurd (cc)
operator_symbol (new_word n) op is_word e = absurd (cc)
operator_symbol (type_of_word n) op is_word e = absurd (cc)
operator_symbol (address_of_word n) op is_word e = absurd (cc)
operator_symbol (by_val_word n) op is_word e = absurd (cc)
operator_symbol (not_word n) op is_word e = absurd (cc)
operator_symbol (operator o w) op is_word e = (w, cc, cc)
operator_symbol (reserved_word n) op is_word e = absurd (cc)
operator_symbol (access bang) op is_word e = absurd (cc)
operator_symbol opening op is_word e = absurd (cc)
operator_symbol closing op is_word e = absurd (cc)
operator_symbol comma op is_word e = absurd (cc)
operator_symbol assign op is_word e = absurd (cc)
operator_symbol hash op is_word e = absurd (cc)
operator_symbol other op is_word e = absurd (cc)

front : (tokens rest : List Token) (t : Token) (s : Symbol) → tokens ≡ t ∷ rest → symbol_of t.kind ≡ s → symbols tokens ≡ s ∷ symbols rest
front tokens rest t s e f = ap symbols e ∙ ap (λ x. x ∷ symbols rest) f

other_front : (tokens rest : List Token) (t : Token) (s : Symbol) (more : List Symbol) (k : Class) → tokens ≡ t ∷ rest → k ≡ class_of (symbol_of t.kind) → symbols tokens ≡ s ∷ more → k ≡ class_of s
other_front tokens rest t s more k e f g = f ∙ ap class_of (let h : symbol_of t.kind ≡ s = cc (sym (ap symbols e) ∙ g) in h)

pub closing_front : (tokens rest : List Token) (t : Token) → tokens ≡ t ∷ rest → c.Closing ≡ class_of (symbol_of t.kind) → symbols tokens ≡ closing ∷ symbols rest
closing_front tokens rest t e f = front tokens rest t closing e (closing_symbol (symbol_of t.kind) (sym f))

pub closing_other : (tokens rest : List Token) (t : Token) (more : List Symbol) (k : Class) → tokens ≡ t ∷ rest → k ≡ class_of (symbol_of t.kind) → (k ≡ c.Closing → ⊥) → symbols tokens ≡ closing ∷ more → ⊥
closing_other tokens rest t more k e f g h = g (other_front tokens rest t closing more k e f h)

pub comma_front : (tokens rest : List Token) (t : Token) → tokens ≡ t ∷ rest → c.Comma ≡ class_of (symbol_of t.kind) → symbols tokens ≡ comma ∷ symbols rest
comma_front tokens rest t e f = front tokens rest t comma e (comma_symbol (symbol_of t.kind) (sym f))

pub comma_other : (tokens rest : List Token) (t : Token) (more : List Symbol) (k : Class) → tokens ≡ t ∷ rest → k ≡ class_of (symbol_of t.kind) → (k ≡ c.Comma → ⊥) → symbols tokens ≡ comma ∷ more → ⊥
comma_other tokens rest t more k e f g h = g (other_front tokens rest t comma more k e f h)

pub assign_front : (tokens rest : List Token) (t : Token) → tokens ≡ t ∷ rest → c.Assign ≡ class_of (symbol_of t.kind) → symbols tokens ≡ assign ∷ symbols rest
assign_front tokens rest t e f = front tokens rest t assign e (assign_symbol (symbol_of t.kind) (sym f))

pub assign_other : (tokens rest : List Token) (t : Token) (more : List Symbol) (k : Class) → tokens ≡ t ∷ rest → k ≡ class_of (symbol_of t.kind) → (k ≡ c.Assign → ⊥) → symbols tokens ≡ assign ∷ more → ⊥
assign_other tokens rest t more k e f g h = g (other_front tokens rest t assign more k e f h)

pub dot_front : (tokens rest : List Token) (t : Token) → tokens ≡ t ∷ rest → c.Access false ≡ class_of (symbol_of t.kind) → symbols tokens ≡ access false ∷ symbols rest
dot_front tokens rest t e f = front tokens rest t (access false) e (access_symbol (symbol_of t.kind) false (sym f))

pub dot_other : (tokens rest : List Token) (t : Token) (more : List Symbol) (k : Class) → tokens ≡ t ∷ rest → k ≡ class_of (symbol_of t.kind) → (k ≡ c.Access false → ⊥) → symbols tokens ≡ access false ∷ more → ⊥
dot_other tokens rest t more k e f g h = g (other_front tokens rest t (access false) more k e f h)

pub naming_front : (tokens rest : List Token) (t : Token) (k : Class) (n : List ℕ) → tokens ≡ t ∷ rest → k ≡ class_of (symbol_of t.kind) → k ≡ c.Naming → name_in (symbol_of t.kind) ≡ n → (x : Naming) × (symbols tokens ≡ leaf (naming x) ∷ symbols rest) × (name_of x ≡ n)
naming_front tokens rest t k n e f g h =
    let s = naming_symbol (symbol_of t.kind) (sym f ∙ g) in
    (s.0, front tokens rest t (leaf (naming s.0)) e s.1, sym (ap name_in s.1) ∙ h)

pub by_val_front : (tokens rest : List Token) (t : Token) (k : Class) → tokens ≡ t ∷ rest → k ≡ class_of (symbol_of t.kind) → k ≡ c.ByVal → (s : Symbol) × (symbols tokens ≡ s ∷ symbols rest) × IsMark s
by_val_front tokens rest t k e f g =
    let s = by_val_symbol (symbol_of t.kind) (sym f ∙ g) in
    (by_val_word s.0, front tokens rest t (by_val_word s.0) e s.1, tt)

pub hash_front : (tokens rest : List Token) (t : Token) (k : Class) → tokens ≡ t ∷ rest → k ≡ class_of (symbol_of t.kind) → k ≡ c.Hash → (s : Symbol) × (symbols tokens ≡ s ∷ symbols rest) × IsMark s
hash_front tokens rest t k e f g = (hash, front tokens rest t hash e (hash_symbol (symbol_of t.kind) (sym f ∙ g)), tt)
