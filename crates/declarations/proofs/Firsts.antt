-- Procedures with the first parts of their properties, made one after the other.
use Rattle.std.proofs.Common.{◌≡◌, ◌⊎◌, inl, inr, List, [], ◌∷◌, ◌++◌, map, refl, ap, sym, ◌∙◌, append_assoc}
use Rattle.std.proofs.lemmas.List.{append-nil, map-append}
use Rattle.vb_tree.specs.declared.declared.ProcId.{ProcId}
use Rattle.bound_tree.specs.declared.declared.ProcDecl.{ProcDecl}
use Rattle.bound_tree.specs.Tree.{Procedure}
use Rattle.bound_tree.specs.View.{procedure_of}
use Rattle.declared_names.specs.declared.lists.NamedProc.{NamedProc}
use Rattle.declared_names.specs.Declaring.{NamedProcedure}
use Rattle.declared_names.specs.View.{procedure_of as named_procedure}
use Rattle.declarations.specs.Bare.{bare_procedure, bare_procedures}

-- those so far and what the rest gives
abbrev pub with_rest : List ProcDecl → List ProcId → List NamedProc → List Procedure
with_rest made firsts all = map procedure_of made ++ bare_procedures firsts (map named_procedure all)

pub one_more : (whole : List Procedure) (made new : List ProcDecl) (f : ProcId) (p : NamedProc) (q : ProcDecl) (fs gs : List ProcId) (ps qs : List NamedProc)
    → fs ≡ f ∷ gs → ps ≡ p ∷ qs → new ≡ made ++ q ∷ [] → procedure_of q ≡ bare_procedure f (named_procedure p)
    → with_rest made fs ps ≡ whole → with_rest new gs qs ≡ whole
one_more whole made new f p q fs gs ps qs firsts procs pushed made_of so_far =
    ap (λ ds. with_rest ds gs qs) pushed
    ∙ ap (λ ds. ds ++ bare_procedures gs (map named_procedure qs)) (map-append procedure_of made (q ∷ []))
    ∙ append_assoc (map procedure_of made) (procedure_of q ∷ []) (bare_procedures gs (map named_procedure qs))
    ∙ ap (λ (d : Procedure). map procedure_of made ++ (d ∷ bare_procedures gs (map named_procedure qs))) made_of
    ∙ sym (ap (λ os. with_rest made os (p ∷ qs)) firsts)
    ∙ sym (ap (λ os. with_rest made fs os) procs)
    ∙ so_far

none_left : (fs : List ProcId) (ps : List NamedProc) → (fs ≡ []) ⊎ (ps ≡ []) → bare_procedures fs (map named_procedure ps) ≡ []
none_left fs ps (inl e) = ap (λ os. bare_procedures os (map named_procedure ps)) e ∙ no_firsts (map named_procedure ps)
  where
    no_firsts : (qs : List NamedProcedure) → bare_procedures [] qs ≡ []
    no_firsts [] = refl
    no_firsts (q ∷ qs) = refl
none_left fs ps (inr e) = ap (λ os. bare_procedures fs (map named_procedure os)) e ∙ no_procedures fs
  where
    no_procedures : (os : List ProcId) → bare_procedures os [] ≡ []
    no_procedures [] = refl
    no_procedures (o ∷ os) = refl

pub all_made : (whole : List Procedure) (made : List ProcDecl) (fs : List ProcId) (ps : List NamedProc) → (fs ≡ []) ⊎ (ps ≡ []) → with_rest made fs ps ≡ whole
    → map procedure_of made ≡ whole
all_made whole made fs ps ended so_far = sym (append-nil (map procedure_of made)) ∙ sym (ap (λ ds. map procedure_of made ++ ds) (none_left fs ps ended)) ∙ so_far
