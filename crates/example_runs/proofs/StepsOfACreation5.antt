-- The program steps-of-a-creation-5, what it puts out and how it ends.
use Rattle.std.proofs.Common.{◌≡◌, refl, ◌++◌, List, ℤ, pos, Bool, true, false, [], ◌∷◌, codes, Some, None}
use Rattle.vb_tree.specs.declared.declared.VarId.{VarId}
use Rattle.bound_tree.specs.Tree as bound
use Rattle.net_tree.specs.Tree as net
use Rattle.net_tree.specs.Types as net_types
use Rattle.vb_tree.specs.BoundTree as types
use Rattle.vb_tree.specs.Tree as vb
use Rattle.net_tree.specs.declared.expression.CastWord.TheVariants as cast
use Rattle.net_tree.specs.declared.declaration.NetClose.TheVariants as close
use Rattle.vb_tree.specs.declared.declared.ProcKind.TheVariants as kind
use Rattle.vb_tree.specs.declared.token.Literal6.TheVariants as literal
use Rattle.bound_tree.specs.declared.body.Mention.TheVariants as mention
use Rattle.bound_tree.specs.declared.declared.Named.TheVariants as named
use Rattle.net_tree.specs.declared.expression.NetBin.TheVariants as net_bin
use Rattle.net_tree.specs.declared.declaration.NetPassing.TheVariants as net_passing
use Rattle.net_tree.specs.declared.declaration.NetVisibility.TheVariants as net_visible
use Rattle.bound_tree.specs.declared.expression.Origin.TheVariants as origin
use Rattle.vb_tree.specs.declared.declared.Owner.TheVariants as owner
use Rattle.vb_tree.specs.declared.project.ProjectKind.TheVariants as project_kind
use Rattle.bound_tree.specs.declared.declared.Scope.TheVariants as scope
use Rattle.vb_tree.specs.declared.token.Suffix.TheVariants as suffix
use Rattle.vb_tree.specs.declared.value.Value6.TheVariants as value
use Rattle.vb_tree.specs.declared.form_parts.VarWord.TheVariants as var
use Rattle.vb_tree.specs.declared.form_parts.Visibility.TheVariants as visible
use Rattle.std.specs.Fmt.{digits}
use Rattle.example_runs.proofs.Said.{line, ran, runnable_of, steps_spent}
use Rattle.vb6_run.specs.Runnables.{Runnable}

abbrev pub project : vb.Project
project = (record {
  file = (record {
    kind = project_kind.Exe;
    startup = (Some (4, (codes "Sub Main")));
    entries = ((record
        { line = 2; class = false; name = (codes "Main1"); file = (codes "Main1.bas") }) ∷ (record {
          line = 3;
          class = true;
          name
              = (codes "Node");
          file = (codes "Node.cls");
        }) ∷ []);
    dropped = ([]);
  });
  modules = ((record {
    file = 1;
    name = (codes
        "Main1");
    class = false;
    members = (
        (vb.proc (record {
          place = (record { file = 1; line = 1 });
          text = (codes "Sub Main()");
          form = (vb.sub_head (record {
            visibility = None;
            name = (codes "Main");
            suffix = suffix.Absent;
            params = ([]);
          }));
        }) (vb.next_node
        (vb.line (record {
          place = (record { file = 1; line = 2 });
          text = (codes "Dim a As New Node");
          form = (vb.variables
              var.Dim ((record {
                name = (codes "a");
                suffix = suffix.Absent;
                bounds = None;
                auto = true;
                ty = (Some (vb.named (codes
                    "Node")));
              }) ∷ []));
        })) (vb.next_node
        (vb.line (record {
          place = (record { file = 1; line = 3 });
          text = (68 ∷ 101 ∷ 98 ∷ 117 ∷ 103 ∷ 46 ∷ 80 ∷ 114 ∷ 105
              ∷ 110 ∷ 116 ∷ 32 ∷ 34 ∷ 115 ∷ 116 ∷ 97 ∷ 114 ∷ 116 ∷ 34 ∷ []);
          form = (vb.debug_print ((vb.lit (literal.Str (codes "start")))
              ∷ []) false);
        })) (vb.next_node
        (vb.line (record {
          place = (record { file = 1; line = 4 });
          text = (codes "a.k = 1");
          form = (vb.assign (vb.member (vb.word
              (codes "a") suffix.Absent) (codes "k")) (vb.lit (literal.Int (pos 1) false)));
        })) (vb.next_node
        (vb.line (record {
          place = (record { file = 1; line = 5 });
          text = (codes "Debug.Print a.k");
          form = (vb.debug_print
              ((vb.member (vb.word (codes "a") suffix.Absent) (codes "k")) ∷ []) false);
        })) vb.no_nodes)))) (record {
          place = (record
              { file = 1; line = 6 });
          text = (codes "End Sub");
          form = vb.end_sub;
        })) ∷ []);
    comments = ([]);
  }) ∷ (record {
    file =
        2;
    name = (codes "Node");
    class = true;
    members = (
        (vb.alone (record {
          place = (record { file = 2; line = 4 });
          text = (codes "Public k As Long");
          form = (vb.variables var.Public
              ((record {
                name = (codes "k");
                suffix = suffix.Absent;
                bounds = None;
                auto = false;
                ty = (Some (vb.named (codes "Long")));
              }) ∷ []));
        })) ∷
        (vb.proc (record {
          place = (record { file = 2; line = 6 });
          text = (codes "Private Sub Class_Initialize()");
          form = (vb.sub_head
              (record {
                visibility = (Some visible.Private);
                name = (codes "Class_Initialize");
                suffix = suffix.Absent;
                params = ([]);
              }));
        }) (vb.next_node
        (vb.line (record {
          place = (record { file = 2; line = 7 });
          text = (68 ∷ 101 ∷ 98 ∷ 117 ∷ 103 ∷ 46 ∷ 80 ∷ 114 ∷ 105
              ∷ 110 ∷ 116 ∷ 32 ∷ 34 ∷ 109 ∷ 97 ∷ 100 ∷ 101 ∷ 34 ∷ []);
          form = (vb.debug_print ((vb.lit (literal.Str (codes "made")))
              ∷ []) false);
        })) (vb.next_node
        (vb.line (record {
          place = (record { file = 2; line = 8 });
          text = (codes "k = 5");
          form = (vb.assign (vb.word (codes
              "k") suffix.Absent) (vb.lit (literal.Int (pos 5) false)));
        })) vb.no_nodes)) (record {
          place = (record {
            file = 2;
            line
                = 9;
          });
          text = (codes "End Sub");
          form = vb.end_sub;
        })) ∷ []);
    comments = ([]);
  }) ∷ []);
})

abbrev pub declarations : bound.Declarations
declarations = (record {
  project = project;
  names = (
      (record { name = (codes "Main"); scope = (scope.Public 1); named = (named.Proc (record { 0 = 0 })) }) ∷
      (record { name = (codes "a"); scope = (scope.Local (record { 0 = 0 })); named = (named.Var (record { 0 = 0 })) }) ∷
      (record { name = (codes "k"); scope = (scope.Public 2); named = (named.Var (record { 0 = 1 })) }) ∷
      (record { name = (codes "Class_Initialize"); scope = (scope.Private 2); named = (named.Proc (record { 0 = 1 })) }) ∷ []);
  vars = (
      (record {
        name = (codes "a");
        place = (record { file = 1; line = 2 });
        statement = 1;
        owner = (owner.Local (record {
          0
              = 0;
        }));
        ty = (types.class 0);
        named = (types.class 0);
        qualified = false;
        lettered = None;
        bounds = ([]);
        auto = true;
        preset = None;
      }) ∷
      (record {
        name = (codes "k");
        place = (record { file = 2; line = 4 });
        statement = 0;
        owner = (owner.Module 2);
        ty = types.long;
        named = types.long;
        qualified = false;
        lettered = None;
        bounds = ([]);
        auto = false;
        preset = None;
      }) ∷ []);
  consts =
      ([]);
  procs = (
      (record {
        name = (codes "Main");
        place = (record { file = 1; line = 1 });
        module_number = 1;
        kind = kind.Sub;
        visibility
            = visible.Public;
        params = ([]);
        result = types.nothing;
        answer = None;
        first = (record { 0 = 0 });
      }) ∷
      (record {
        name = (codes "Class_Initialize");
        place = (record { file = 2; line = 6 });
        module_number = 2;
        kind = kind.Sub;
        visibility = visible.Private;
        params = ([]);
        result = types.nothing;
        answer = None;
        first = (record { 0 = 1 });
      }) ∷ []);
  types = ([]);
  enums = ([]);
  defaults = (None ∷ []);
})

abbrev pub body_0 : List bound.Line
body_0 = (
    (record {
      source = (record {
        place = (record { file = 1; line = 3 });
        text = (68 ∷ 101 ∷ 98 ∷ 117 ∷ 103 ∷ 46 ∷ 80 ∷ 114
            ∷ 105 ∷ 110 ∷ 116 ∷ 32 ∷ 34 ∷ 115 ∷ 116 ∷ 97 ∷ 114 ∷ 116 ∷ 34 ∷ []);
        form = (vb.debug_print ((vb.lit (literal.Str (codes
            "start"))) ∷ []) false);
      });
      bindings = (record {
        exprs = ((bound.typed types.str (bound.constant (value.Str (codes "start"))
            origin.Literal)) ∷ []);
        rules = (record { bits = 0 });
        mentions = ([]);
      });
    }) ∷
    (record {
      source = (record {
        place = (record { file = 1; line = 4 });
        text = (codes "a.k = 1");
        form = (vb.assign (vb.member
            (vb.word (codes "a") suffix.Absent) (codes "k")) (vb.lit (literal.Int (pos 1) false)));
      });
      bindings = (record {
        exprs
            = ((bound.typed types.long (bound.field (bound.typed (types.class 0) (bound.variable (record { 0 = 0 }) false)) 0)) ∷
            (bound.typed types.long (bound.convert types.long (bound.typed types.integer (bound.constant (value.Int (pos 1)) origin.Literal))))
            ∷ []);
        rules = (record { bits = 0 });
        mentions = ((mention.Var (record { 0 = 1 })) ∷ (mention.Var (record { 0 = 0 }))
            ∷ []);
      });
    }) ∷
    (record {
      source = (record {
        place = (record { file = 1; line = 5 });
        text = (codes "Debug.Print a.k");
        form = (vb.debug_print
            ((vb.member (vb.word (codes "a") suffix.Absent) (codes "k")) ∷ []) false);
      });
      bindings = (record {
        exprs = ((bound.typed
            types.long (bound.field (bound.typed (types.class 0) (bound.variable (record { 0 = 0 }) false)) 0)) ∷ []);
        rules = (record
            { bits = 0 });
        mentions = ((mention.Var (record { 0 = 1 })) ∷ (mention.Var (record { 0 = 0 })) ∷ []);
      });
    }) ∷ [])

abbrev pub body_1 : List bound.Line
body_1 = (
    (record {
      source = (record {
        place = (record { file = 2; line = 7 });
        text = (68 ∷ 101 ∷ 98 ∷ 117 ∷ 103 ∷ 46 ∷ 80 ∷ 114
            ∷ 105 ∷ 110 ∷ 116 ∷ 32 ∷ 34 ∷ 109 ∷ 97 ∷ 100 ∷ 101 ∷ 34 ∷ []);
        form = (vb.debug_print ((vb.lit (literal.Str (codes "made")))
            ∷ []) false);
      });
      bindings = (record {
        exprs = ((bound.typed types.str (bound.constant (value.Str (codes "made")) origin.Literal))
            ∷ []);
        rules = (record { bits = 0 });
        mentions = ([]);
      });
    }) ∷
    (record {
      source = (record {
        place = (record { file = 2; line = 8 });
        text = (codes "k = 5");
        form = (vb.assign (vb.word
            (codes "k") suffix.Absent) (vb.lit (literal.Int (pos 5) false)));
      });
      bindings = (record {
        exprs = ((bound.typed types.long
            (bound.variable (record { 0 = 1 }) false)) ∷ (bound.typed types.long (bound.convert types.long (bound.typed types.integer
            (bound.constant (value.Int (pos 5)) origin.Literal)))) ∷ []);
        rules = (record { bits = 0 });
        mentions = ((mention.Var
            (record { 0 = 1 })) ∷ []);
      });
    }) ∷ [])

abbrev pub bodies : List (List bound.Line)
bodies = body_0 ∷ body_1 ∷ []

abbrev pub program : bound.Program
program = record { declarations = declarations; bodies = bodies }

abbrev pub quiet : List (List Bool)
quiet = (([]) ∷ ([]) ∷ [])

abbrev pub lows : List (VarId × ℤ × ℤ)
lows = ([])

abbrev pub clean : List Bool
clean = (true ∷ true ∷ [])

abbrev pub written : net.Project
written = (record {
  library = false;
  main = (Some (codes "Main1"));
  note = None;
  modules = ((record {
    name = (codes "Main1");
    class = false;
    members = (
        (net.proc (record {
          head = (net.sub net_visible.Public (codes "Main") ([]));
          prologue = (
              (net.local (record { name = (codes "a"); ty = (net_types.named ((codes "Node") ∷ [])); value = None })) ∷ []);
          lines =
              (
              (net.call (net.path ((codes "UpgradeSupport") ∷ (codes "PrintLine") ∷ [])) (net.next_exp (net.lit (net.str (codes "start")))
              net.no_exps)) ∷
              (net.assign (net.dot (net.call_of (net.path ((codes "UpgradeSupport") ∷ (codes "Auto_Node") ∷ [])) (net.next_exp (net.path
              ((codes "a") ∷ [])) net.no_exps)) (codes "k")) (net.lit (net.integer (pos 1) false))) ∷
              (net.call (net.path ((codes "UpgradeSupport") ∷ (codes "PrintLine") ∷ [])) (net.next_exp (net.call_of (net.path ((codes
              "UpgradeSupport") ∷ (codes "PrintNum") ∷ [])) (net.next_exp (net.cast cast.CDec (net.dot (net.call_of (net.path ((codes
              "UpgradeSupport") ∷ (codes "Auto_Node") ∷ [])) (net.next_exp (net.path ((codes "a") ∷ [])) net.no_exps)) (codes "k")))
              net.no_exps)) net.no_exps)) ∷ []);
          close = close.EndSub;
        })) ∷ []);
  }) ∷ (record {
    name = (codes "Node");
    class = true;
    members = (
        (net.proc (record {
          head = net.sub_new;
          prologue = ([]);
          lines = (
              (net.call (net.path ((codes "Class_Initialize") ∷ [])) net.no_exps) ∷ []);
          close = close.EndSub;
        })) ∷
        (net.variable net_visible.Public (record { name = (codes "k"); ty = net_types.integer; value = None })) ∷
        (net.proc (record {
          head = (net.sub net_visible.Private (codes "Class_Initialize") ([]));
          prologue = ([]);
          lines = (
              (net.call (net.path ((codes "UpgradeSupport") ∷ (codes "PrintLine") ∷ [])) (net.next_exp (net.lit (net.str (codes "made")))
              net.no_exps)) ∷
              (net.assign (net.path ((codes "k") ∷ [])) (net.lit (net.integer (pos 5) false))) ∷ []);
          close = close.EndSub;
        })) ∷ []);
  }) ∷ []);
  support = (record {
    name = (codes "UpgradeSupport");
    class = false;
    members = (
        (net.proc (record {
          head = (net.sub net_visible.Public (codes "PrintLine") ((record {
            passing = net_passing.Value;
            name
                = (codes "s");
            ty = net_types.str;
          }) ∷ []));
          prologue = ([]);
          lines = (
              (net.call (net.path ((codes "System") ∷ (codes "Console") ∷ (codes "WriteLine") ∷ [])) (net.next_exp (net.path ((codes
              "s") ∷ [])) net.no_exps)) ∷ []);
          close = close.EndSub;
        })) ∷
        (net.proc (record {
          head = (net.function net_visible.Public (codes "CurText") ((record {
            passing = net_passing.Value;
            name = (codes "d");
            ty = net_types.decimal;
          }) ∷ []) net_types.str);
          prologue = ([]);
          lines = (
              (net.assign (net.path ((codes "CurText") ∷ [])) (net.call_of (net.path ((codes "d") ∷ (codes "ToString") ∷ [])) (net.next_exp
              (net.lit (net.str (codes "0.####"))) (net.next_exp (net.path ((codes "System") ∷ (codes "Globalization") ∷ (codes "CultureInfo")
              ∷ (codes "InvariantCulture") ∷ [])) net.no_exps)))) ∷ []);
          close = close.EndFunction;
        })) ∷
        (net.proc (record {
          head = (net.function net_visible.Public (codes "PrintNum") ((record {
            passing = net_passing.Value;
            name = (codes "d");
            ty = net_types.decimal;
          }) ∷ []) net_types.str);
          prologue = ([]);
          lines = (
              (net.if_head (net.binary net_bin.Less (net.path ((codes "d") ∷ [])) (net.lit (net.decimal (pos 0))))) ∷
              (net.assign (net.path ((codes "PrintNum") ∷ [])) (net.binary net_bin.Concat (net.call_of (net.path ((codes "CurText")
              ∷ [])) (net.next_exp (net.path ((codes "d") ∷ [])) net.no_exps)) (net.lit (net.str (codes " "))))) ∷
              net.else_line ∷
              (net.assign (net.path ((codes "PrintNum") ∷ [])) (net.binary net_bin.Concat (net.binary net_bin.Concat (net.lit (net.str
              (codes " "))) (net.call_of (net.path ((codes "CurText") ∷ [])) (net.next_exp (net.path ((codes "d") ∷ [])) net.no_exps)))
              (net.lit (net.str (codes " "))))) ∷
              net.end_if ∷ []);
          close = close.EndFunction;
        })) ∷
        (net.proc (record {
          head = (net.function net_visible.Public (codes "Auto_Node") ((record {
            passing = net_passing.Reference;
            name = (codes "x");
            ty = (net_types.named ((codes "Node") ∷ []));
          }) ∷ []) (net_types.named ((codes "Node") ∷ [])));
          prologue
              = ([]);
          lines = (
              (net.if_head (net.binary net_bin.Is (net.path ((codes "x") ∷ [])) net.nothing)) ∷
              (net.assign (net.path ((codes "x") ∷ [])) (net.new_object (net_types.named ((codes "Node") ∷ [])) net.no_exps)) ∷
              net.end_if ∷
              (net.assign (net.path ((codes "Auto_Node") ∷ [])) (net.path ((codes "x") ∷ []))) ∷ []);
          close = close.EndFunction;
        }))
        ∷ []);
  });
})

abbrev pub runnable : Runnable
runnable = runnable_of program quiet lows

said : ran runnable 0 5 ≡ (
  line (codes "start")
      ++ line (codes "made"),
  steps_spent,
)
unfolding digits
said = refl
