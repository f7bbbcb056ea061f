-- What parameters and names with them are read as, by their parts, and where one of them isn't read.
use Rattle.std.proofs.Common.{◌≡◌, ℕ, suc, Bool, true, false, cond, List, [], length, drop, sym, ap, ◌∙◌, Option, Some, option_map, option_and_then}
use Rattle.net_tree.specs.declared.declaration.NetPassing.{NetPassing}
use Rattle.net_tree.specs.Tree.{Param}
use Rattle.net_exprs.specs.declared.fail.PhraseFail.{PhraseFail}
use Rattle.net_exprs.specs.Answers.{FailsFor}
use Rattle.net_exprs.specs.Ends.{begins_with}
use Rattle.net_exprs.specs.Names.{name_at}
use Rattle.net_exprs.specs.Fitting.{fits_name}
use Rattle.net_exprs.proofs.Answering.{fails_up}
use Rattle.net_reader.specs.DeclarationReader.{Signature, declared_at, param_at, param_of, params_at, signature_at}
use Rattle.net_reader.specs.Fits.{fits_param}
use Rattle.net_reader.specs.Items.{items_at}
use Rattle.net_reader.specs.Parts.{fits_declared, fits_params, fits_signature}
use Rattle.net_reader.proofs.Declaring.{first_false, second_false}
use Rattle.net_reader.proofs.Failures.{misfits_always, misfits_map, misfits_then}

pub param_fails : (passing : NetPassing) (text : List ℕ) (e : PhraseFail) → FailsFor fits_declared (declared_at text) e → FailsFor fits_param (param_of passing text) e
param_fails passing text e h =
    fails_up fits_declared fits_param (declared_at text) (param_of passing text) e
    (misfits_map fits_declared fits_param (declared_at text) (λ d. (record { passing = passing; name = d.0.name; ty = d.0.ty }, d.1)) (λ d k. k)) h

-- ---- parameters in parentheses

abbrev behind_params : List Param × List ℕ → List Param × List ℕ
behind_params r = (r.0, drop 1 r.1)

abbrev some_params : List ℕ → Option (List Param × List ℕ)
some_params inner = items_at param_at (suc (length inner)) inner

abbrev params_if : Bool → (text inner : List ℕ) → Option (List Param × List ℕ)
params_if closed text inner = cond closed (Some ([], drop 2 text)) (option_map behind_params (some_params inner))

params_by : (text inner : List ℕ) (b : Bool) → inner ≡ drop 1 text → begins_with 41 inner ≡ b → params_at text ≡ params_if b text inner
params_by text inner b is h = ap (λ s. params_if (begins_with 41 s) text s) (sym is) ∙ ap (λ closed. params_if closed text inner) h

pub no_params : (text inner : List ℕ) → inner ≡ drop 1 text → begins_with 41 inner ≡ true → params_at text ≡ Some ([], drop 2 text)
no_params text inner is h = params_by text inner true is h

pub params_read : (text inner : List ℕ) (ps : List Param) (rest : List ℕ) → inner ≡ drop 1 text → begins_with 41 inner ≡ false → some_params inner ≡ Some (ps, rest)
    → params_at text ≡ Some (ps, drop 1 rest)
params_read text inner ps rest is h k = params_by text inner false is h ∙ ap (option_map behind_params) k

pub params_fail : (text inner : List ℕ) (e : PhraseFail) → inner ≡ drop 1 text → begins_with 41 inner ≡ false → FailsFor fits_params (some_params inner) e → FailsFor fits_params (params_at text) e
params_fail text inner e is h k =
    rw (params_by text inner false is h)
    (fails_up fits_params fits_params (some_params inner) (option_map behind_params (some_params inner)) e (misfits_map fits_params fits_params (some_params inner) behind_params (λ r l. l)) k)

-- ---- a name with parameters

abbrev with_params : List ℕ → List Param × List ℕ → Signature × List ℕ
with_params name r = (record { name = name; params = r.0 }, r.1)

signature_by : (text name rest : List ℕ) → name_at text ≡ Some (name, rest) → signature_at text ≡ option_map (with_params name) (params_at rest)
signature_by text name rest h = ap (option_and_then (λ n. option_map (with_params n.0) (params_at n.1))) h

pub signature_reads : (text name rest : List ℕ) (ps : List Param) (beyond : List ℕ) → name_at text ≡ Some (name, rest) → params_at rest ≡ Some (ps, beyond)
    → signature_at text ≡ Some (record { name = name; params = ps }, beyond)
signature_reads text name rest ps beyond h k = signature_by text name rest h ∙ ap (option_map (with_params name)) k

pub signature_fails_at_name : (text : List ℕ) (e : PhraseFail) → FailsFor fits_name (name_at text) e → FailsFor fits_signature (signature_at text) e
signature_fails_at_name text e h =
    fails_up fits_name fits_signature (name_at text) (signature_at text) e
    (misfits_then fits_name fits_signature (name_at text) (λ n. option_map (with_params n.0) (params_at n.1))
    (λ n k. misfits_always fits_signature (params_at n.1) (with_params n.0) (λ r. first_false (fits_name n.0) (fits_params r.0) k))) h

pub signature_fails_at_params : (text name rest : List ℕ) (e : PhraseFail) → name_at text ≡ Some (name, rest) → FailsFor fits_params (params_at rest) e → FailsFor fits_signature (signature_at text) e
signature_fails_at_params text name rest e is h =
    fails_up fits_params fits_signature (params_at rest) (signature_at text) e
    (λ k. rw (signature_by text name rest is) (misfits_map fits_params fits_signature (params_at rest) (with_params name) (λ r l. second_false (fits_name name) (fits_params r.0) l) k)) h
