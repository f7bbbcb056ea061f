-- What the heads of procedures and properties are read as, by their parts, and where one of them isn't read.
use Rattle.std.proofs.Common.{◌≡◌, ℕ, Bool, true, false, ◌&&◌, List, [], drop, refl, ap, ◌∙◌, Option, Some, None, option_map, option_and_then}
use Rattle.net_tree.specs.declared.declaration.NetVisibility.{NetVisibility}
use Rattle.net_tree.specs.Types.{TypeName}
use Rattle.net_tree.specs.Tree.{Head, Property, function, set_part, sub}
use Rattle.net_exprs.specs.declared.fail.PhraseFail.{PhraseFail}
use Rattle.net_exprs.specs.Answers.{FailsFor}
use Rattle.net_exprs.specs.Fitting.{fits_type}
use Rattle.net_exprs.specs.Types.{type_at}
use Rattle.net_reader.specs.Answers.{FailsWhole}
use Rattle.net_reader.specs.DeclarationReader.{Signature, declared_at, function_in, property_in, set_in, signature_at, sub_by}
use Rattle.net_reader.specs.Fits.{fits_head, fits_property}
use Rattle.net_reader.specs.Parts.{fits_declared, fits_signature}
use Rattle.net_reader.proofs.Declaring.{first_false, second_false}
use Rattle.net_reader.proofs.Failures.{fails_whole, misfits_end, misfits_whole, ends_always}

pub sub_fails : (v : NetVisibility) (text : List ℕ) (e : PhraseFail) → FailsFor fits_signature (signature_at text) e → FailsWhole fits_head (sub_by v None text) e
sub_fails v text e h =
    fails_whole fits_signature fits_head (signature_at text) (sub_by v None text) e
    (misfits_end fits_signature fits_head (signature_at text) (λ s. sub v s.0.name s.0.params) (λ s k. k)) h

pub set_fails : (text : List ℕ) (e : PhraseFail) → FailsFor fits_declared (declared_at (drop 7 text)) e → FailsWhole fits_head (set_in text) e
set_fails text e h =
    fails_whole fits_declared fits_head (declared_at (drop 7 text)) (set_in text) e
    (misfits_end fits_declared fits_head (declared_at (drop 7 text)) (λ d. set_part d.0.name d.0.ty) (λ d k. k)) h

-- ---- what a signature and a type make

module _ {X : Type 0} (fits : X → Bool) (make : Signature → TypeName → X) where
  abbrev pub typed : List ℕ → Option X
  typed text = option_and_then (λ (s : Signature × List ℕ). option_map (λ (t : TypeName × List ℕ). make s.0 t.0) (type_at (drop 4 s.1))) (signature_at text)

  typed_by : (text : List ℕ) (s : Signature) (rest : List ℕ) → signature_at text ≡ Some (s, rest) → typed text ≡ option_map (λ (t : TypeName × List ℕ). make s t.0) (type_at (drop 4 rest))
  typed_by text s rest h = ap (option_and_then (λ (s : Signature × List ℕ). option_map (λ (t : TypeName × List ℕ). make s.0 t.0) (type_at (drop 4 s.1)))) h

  pub typed_reads : (text : List ℕ) (s : Signature) (rest : List ℕ) (t : TypeName) (beyond : List ℕ) → signature_at text ≡ Some (s, rest) → type_at (drop 4 rest) ≡ Some (t, beyond)
      → typed text ≡ Some (make s t)
  typed_reads text s rest t beyond h k = typed_by text s rest h ∙ ap (option_map (λ (t : TypeName × List ℕ). make s t.0)) k

  pub typed_fails_at_signature : ((s : Signature) (t : TypeName) → fits_signature s ≡ false → fits (make s t) ≡ false) → (text : List ℕ) (e : PhraseFail)
      → FailsFor fits_signature (signature_at text) e → FailsWhole fits (typed text) e
  typed_fails_at_signature first text e h =
      fails_whole fits_signature fits (signature_at text) (typed text) e
      (misfits_whole fits_signature fits (signature_at text) (λ s. option_map (λ (t : TypeName × List ℕ). make s.0 t.0) (type_at (drop 4 s.1)))
      (λ s k. ends_always fits (type_at (drop 4 s.1)) (λ t. make s.0 t.0) (λ t. first s.0 t.0 k))) h

  pub typed_fails_at_type : ((s : Signature) (t : TypeName) → fits_type t ≡ false → fits (make s t) ≡ false) → (text : List ℕ) (s : Signature) (rest : List ℕ) (e : PhraseFail)
      → signature_at text ≡ Some (s, rest) → FailsFor fits_type (type_at (drop 4 rest)) e → FailsWhole fits (typed text) e
  typed_fails_at_type second text s rest e is h =
      fails_whole fits_type fits (type_at (drop 4 rest)) (typed text) e
      (λ k. rw (typed_by text s rest is) (misfits_end fits_type fits (type_at (drop 4 rest)) (λ t. make s t.0) (λ t l. second s t.0 l) k)) h

-- ---- a function

abbrev pub as_function : NetVisibility → Signature → TypeName → Head
as_function v s t = function v s.name s.params t

function_unfit : (v : NetVisibility) (s : Signature) (t : TypeName) → fits_type t ≡ false → fits_head (as_function v s t) ≡ false
function_unfit v s t h = second_false (fits_signature s) (fits_type t) h

pub function_reads : (v : NetVisibility) (text : List ℕ) (s : Signature) (rest : List ℕ) (t : TypeName) (beyond : List ℕ) → signature_at text ≡ Some (s, rest) → type_at (drop 4 rest) ≡ Some (t, beyond)
    → function_in v text ≡ Some (as_function v s t)
function_reads v = typed_reads fits_head (as_function v)

pub function_fails_at_signature : (v : NetVisibility) (text : List ℕ) (e : PhraseFail) → FailsFor fits_signature (signature_at text) e → FailsWhole fits_head (function_in v text) e
function_fails_at_signature v = typed_fails_at_signature fits_head (as_function v) (λ s t h. first_false (fits_signature s) (fits_type t) h)

pub function_fails_at_type : (v : NetVisibility) (text : List ℕ) (s : Signature) (rest : List ℕ) (e : PhraseFail)
    → signature_at text ≡ Some (s, rest) → FailsFor fits_type (type_at (drop 4 rest)) e → FailsWhole fits_head (function_in v text) e
function_fails_at_type v = typed_fails_at_type fits_head (as_function v) (function_unfit v)

-- ---- a property

abbrev pub as_property : NetVisibility → Signature → TypeName → Property
as_property v s t = record { visibility = v; name = s.name; params = s.params; ty = t; get_comments = []; get = None; set_comments = []; set = None }

property_fit : (v : NetVisibility) (s : Signature) (t : TypeName) → fits_property (as_property v s t) ≡ (fits_signature s && fits_type t)
property_fit v s t = go (fits_signature s && fits_type t)
  where
    go : (b : Bool) → b && true && true ≡ b
    go true = refl
    go false = refl

pub property_reads : (v : NetVisibility) (text : List ℕ) (s : Signature) (rest : List ℕ) (t : TypeName) (beyond : List ℕ) → signature_at text ≡ Some (s, rest) → type_at (drop 4 rest) ≡ Some (t, beyond)
    → property_in v text ≡ Some (as_property v s t)
property_reads v = typed_reads fits_property (as_property v)

pub property_fails_at_signature : (v : NetVisibility) (text : List ℕ) (e : PhraseFail) → FailsFor fits_signature (signature_at text) e → FailsWhole fits_property (property_in v text) e
property_fails_at_signature v = typed_fails_at_signature fits_property (as_property v) (λ s t h. property_fit v s t ∙ first_false (fits_signature s) (fits_type t) h)

pub property_fails_at_type : (v : NetVisibility) (text : List ℕ) (s : Signature) (rest : List ℕ) (e : PhraseFail)
    → signature_at text ≡ Some (s, rest) → FailsFor fits_type (type_at (drop 4 rest)) e → FailsWhole fits_property (property_in v text) e
property_fails_at_type v = typed_fails_at_type fits_property (as_property v) (λ s t h. property_fit v s t ∙ second_false (fits_signature s) (fits_type t) h)
