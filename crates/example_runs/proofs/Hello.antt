-- The program hello, what it puts out and how it ends.
use Rattle.std.proofs.Common.{◌≡◌, refl, List, ℤ, Bool, true, false, [], ◌∷◌, codes, Some, None}
use Rattle.vb_tree.specs.declared.declared.VarId.{VarId}
use Rattle.bound_tree.specs.Tree as bound
use Rattle.net_tree.specs.Tree as net
use Rattle.net_tree.specs.Types as net_types
use Rattle.vb_tree.specs.BoundTree as types
use Rattle.vb_tree.specs.Tree as vb
use Rattle.net_tree.specs.declared.declaration.NetClose.TheVariants as close
use Rattle.vb_tree.specs.declared.declared.ProcKind.TheVariants as kind
use Rattle.vb_tree.specs.declared.token.Literal6.TheVariants as literal
use Rattle.bound_tree.specs.declared.declared.Named.TheVariants as named
use Rattle.net_tree.specs.declared.declaration.NetPassing.TheVariants as net_passing
use Rattle.net_tree.specs.declared.declaration.NetVisibility.TheVariants as net_visible
use Rattle.bound_tree.specs.declared.expression.Origin.TheVariants as origin
use Rattle.vb_tree.specs.declared.project.ProjectKind.TheVariants as project_kind
use Rattle.bound_tree.specs.declared.declared.Scope.TheVariants as scope
use Rattle.vb_tree.specs.declared.token.Suffix.TheVariants as suffix
use Rattle.vb_tree.specs.declared.value.Value6.TheVariants as value
use Rattle.vb_tree.specs.declared.form_parts.Visibility.TheVariants as visible
use Rattle.std.specs.Fmt.{digits}
use Rattle.example_runs.proofs.Said.{ended, line, ran, runnable_of}
use Rattle.vb6_run.specs.Runnables.{Runnable}

abbrev pub project : vb.Project
project = (record {
  file = (record {
    kind = project_kind.Exe;
    startup = (Some (3, (codes "Sub Main")));
    entries = ((record
        { line = 2; class = false; name = (codes "Main1"); file = (codes "Main1.bas") }) ∷ []);
    dropped = ([]);
  });
  modules = ((record {
    file = 1;
    name = (codes "Main1");
    class = false;
    members = (
        (vb.proc (record {
          place = (record { file = 1; line = 1 });
          text = (codes "Sub Main()");
          form = (vb.sub_head (record {
            visibility = None;
            name = (codes "Main");
            suffix = suffix.Absent;
            params = ([]);
          }));
        }) (vb.next_node
        (vb.line (record {
          place = (record { file = 1; line = 2 });
          text = (68 ∷ 101 ∷ 98 ∷ 117 ∷ 103 ∷ 46 ∷ 80 ∷ 114 ∷ 105
              ∷ 110 ∷ 116 ∷ 32 ∷ 34 ∷ 104 ∷ 105 ∷ 34 ∷ []);
          form = (vb.debug_print ((vb.lit (literal.Str (codes "hi"))) ∷ []) false);
        })) vb.no_nodes) (record { place = (record { file = 1; line = 3 }); text = (codes "End Sub"); form = vb.end_sub })) ∷
        []);
    comments = ([]);
  }) ∷ []);
})

abbrev pub declarations : bound.Declarations
declarations = (record {
  project = project;
  names = (
      (record { name = (codes "Main"); scope = (scope.Public 1); named = (named.Proc (record { 0 = 0 })) }) ∷ []);
  vars = ([]);
  consts = ([]);
  procs = (
      (record {
        name = (codes "Main");
        place = (record { file = 1; line = 1 });
        module_number = 1;
        kind = kind.Sub;
        visibility
            = visible.Public;
        params = ([]);
        result = types.nothing;
        answer = None;
        first = (record { 0 = 0 });
      }) ∷ []);
  types = ([]);
  enums = ([]);
  defaults = ([]);
})

abbrev pub body_0 : List bound.Line
body_0 = (
    (record {
      source = (record {
        place = (record { file = 1; line = 2 });
        text = (68 ∷ 101 ∷ 98 ∷ 117 ∷ 103 ∷ 46 ∷ 80 ∷ 114
            ∷ 105 ∷ 110 ∷ 116 ∷ 32 ∷ 34 ∷ 104 ∷ 105 ∷ 34 ∷ []);
        form = (vb.debug_print ((vb.lit (literal.Str (codes "hi"))) ∷ [])
            false);
      });
      bindings = (record {
        exprs = ((bound.typed types.str (bound.constant (value.Str (codes "hi")) origin.Literal))
            ∷ []);
        rules = (record { bits = 0 });
        mentions = ([]);
      });
    }) ∷ [])

abbrev pub bodies : List (List bound.Line)
bodies = body_0 ∷ []

abbrev pub program : bound.Program
program = record { declarations = declarations; bodies = bodies }

abbrev pub quiet : List (List Bool)
quiet = (([]) ∷ [])

abbrev pub lows : List (VarId × ℤ × ℤ)
lows = ([])

abbrev pub clean : List Bool
clean = (true ∷ [])

abbrev pub written : net.Project
written = (record {
  library = false;
  main = (Some (codes "Main1"));
  note = None;
  modules = ((record {
    name = (codes "Main1");
    class = false;
    members = (
        (net.proc (record {
          head = (net.sub net_visible.Public (codes "Main") ([]));
          prologue = ([]);
          lines = (
              (net.call (net.path ((codes "UpgradeSupport") ∷ (codes "PrintLine") ∷ [])) (net.next_exp (net.lit (net.str (codes "hi")))
              net.no_exps)) ∷ []);
          close = close.EndSub;
        })) ∷ []);
  }) ∷ []);
  support = (record {
    name = (codes "UpgradeSupport");
    class
        = false;
    members = (
        (net.proc (record {
          head = (net.sub net_visible.Public (codes "PrintLine") ((record {
            passing = net_passing.Value;
            name
                = (codes "s");
            ty = net_types.str;
          }) ∷ []));
          prologue = ([]);
          lines = (
              (net.call (net.path ((codes "System") ∷ (codes "Console") ∷ (codes "WriteLine") ∷ [])) (net.next_exp (net.path ((codes
              "s") ∷ [])) net.no_exps)) ∷ []);
          close = close.EndSub;
        })) ∷ []);
  });
})

abbrev pub runnable : Runnable
runnable = runnable_of program quiet lows

said : ran runnable 0 2000 ≡
    (line (codes "hi"), ended)
unfolding digits
said = refl
