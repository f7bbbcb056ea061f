-- The program raises-division-by-zero, what it puts out and how it ends.
use Rattle.std.proofs.Common.{◌≡◌, refl, List, ℤ, pos, Bool, true, false, [], ◌∷◌, codes, Some, None}
use Rattle.vb_tree.specs.declared.declared.VarId.{VarId}
use Rattle.bound_tree.specs.Tree as bound
use Rattle.net_tree.specs.Tree as net
use Rattle.net_tree.specs.Types as net_types
use Rattle.vb_tree.specs.BoundTree as types
use Rattle.vb_tree.specs.Tree as vb
use Rattle.vb_tree.specs.declared.expression.BinOp.TheVariants as bin
use Rattle.net_tree.specs.declared.expression.CastWord.TheVariants as cast
use Rattle.net_tree.specs.declared.declaration.NetClose.TheVariants as close
use Rattle.vb_tree.specs.declared.declared.ProcKind.TheVariants as kind
use Rattle.vb_tree.specs.declared.token.Literal6.TheVariants as literal
use Rattle.bound_tree.specs.declared.body.Mention.TheVariants as mention
use Rattle.bound_tree.specs.declared.declared.Named.TheVariants as named
use Rattle.net_tree.specs.declared.expression.NetBin.TheVariants as net_bin
use Rattle.net_tree.specs.declared.declaration.NetPassing.TheVariants as net_passing
use Rattle.net_tree.specs.declared.declaration.NetVisibility.TheVariants as net_visible
use Rattle.bound_tree.specs.declared.expression.Origin.TheVariants as origin
use Rattle.vb_tree.specs.declared.declared.Owner.TheVariants as owner
use Rattle.vb_tree.specs.declared.project.ProjectKind.TheVariants as project_kind
use Rattle.bound_tree.specs.declared.declared.Scope.TheVariants as scope
use Rattle.vb_tree.specs.declared.token.Suffix.TheVariants as suffix
use Rattle.vb_tree.specs.declared.value.Value6.TheVariants as value
use Rattle.vb_tree.specs.declared.form_parts.VarWord.TheVariants as var
use Rattle.vb_tree.specs.declared.form_parts.Visibility.TheVariants as visible
use Rattle.std.specs.Fmt.{digits}
use Rattle.example_runs.proofs.Said.{line, raised, ran, runnable_of}
use Rattle.vb6_run.specs.Runnables.{Runnable}

abbrev pub project : vb.Project
project = (record {
  file = (record {
    kind = project_kind.Exe;
    startup = (Some (3, (codes "Sub Main")));
    entries = ((record
        { line = 2; class = false; name = (codes "Main1"); file = (codes "Main1.bas") }) ∷ []);
    dropped = ([]);
  });
  modules = ((record {
    file = 1;
    name = (codes "Main1");
    class = false;
    members = (
        (vb.proc (record {
          place = (record { file = 1; line = 1 });
          text = (codes "Sub Main()");
          form = (vb.sub_head (record {
            visibility = None;
            name = (codes "Main");
            suffix = suffix.Absent;
            params = ([]);
          }));
        }) (vb.next_node
        (vb.line (record {
          place = (record { file = 1; line = 2 });
          text = (codes "Dim y As Byte, i As Integer, l As Long, c As Currency, s As String");
          form = (vb.variables var.Dim ((record {
            name = (codes "y");
            suffix = suffix.Absent;
            bounds = None;
            auto = false;
            ty =
                (Some (vb.named (codes "Byte")));
          }) ∷ (record {
            name = (codes "i");
            suffix = suffix.Absent;
            bounds = None;
            auto = false;
            ty = (Some (vb.named (codes "Integer")));
          }) ∷ (record {
            name = (codes "l");
            suffix = suffix.Absent;
            bounds = None;
            auto
                = false;
            ty = (Some (vb.named (codes "Long")));
          }) ∷ (record {
            name = (codes "c");
            suffix = suffix.Absent;
            bounds = None;
            auto = false;
            ty = (Some (vb.named (codes "Currency")));
          }) ∷ (record {
            name = (codes "s");
            suffix = suffix.Absent;
            bounds
                = None;
            auto = false;
            ty = (Some (vb.named (codes "String")));
          }) ∷ []));
        })) (vb.next_node
        (vb.line (record {
          place = (record { file = 1; line = 3 });
          text = (68 ∷ 101 ∷ 98 ∷ 117 ∷ 103 ∷ 46 ∷ 80 ∷ 114 ∷ 105
              ∷ 110 ∷ 116 ∷ 32 ∷ 34 ∷ 98 ∷ 101 ∷ 102 ∷ 111 ∷ 114 ∷ 101 ∷ 34 ∷ []);
          form = (vb.debug_print ((vb.lit (literal.Str (codes
              "before"))) ∷ []) false);
        })) (vb.next_node
        (vb.line (record {
          place = (record { file = 1; line = 4 });
          text = (codes "l = 5");
          form = (vb.assign (vb.word (codes
              "l") suffix.Absent) (vb.lit (literal.Int (pos 5) false)));
        })) (vb.next_node
        (vb.line (record {
          place = (record { file = 1; line = 5 });
          text = (108 ∷ 32 ∷ 61 ∷ 32 ∷ 108 ∷ 32 ∷ 92 ∷ 32 ∷ 105 ∷
              []);
          form = (vb.assign (vb.word (codes "l") suffix.Absent) (vb.binary bin.IntDiv (vb.word (codes "l") suffix.Absent) (vb.word
              (codes "i") suffix.Absent)));
        })) (vb.next_node
        (vb.line (record {
          place = (record { file = 1; line = 6 });
          text = (68 ∷ 101 ∷ 98 ∷ 117 ∷ 103 ∷ 46 ∷ 80 ∷ 114 ∷ 105
              ∷ 110 ∷ 116 ∷ 32 ∷ 34 ∷ 97 ∷ 102 ∷ 116 ∷ 101 ∷ 114 ∷ 34 ∷ []);
          form = (vb.debug_print ((vb.lit (literal.Str (codes "after")))
              ∷ []) false);
        })) vb.no_nodes))))) (record {
          place = (record { file = 1; line = 7 });
          text = (codes "End Sub");
          form =
              vb.end_sub;
        })) ∷ []);
    comments = ([]);
  }) ∷ []);
})

abbrev pub declarations : bound.Declarations
declarations = (record {
  project = project;
  names = (
      (record { name = (codes "Main"); scope = (scope.Public 1); named = (named.Proc (record { 0 = 0 })) }) ∷
      (record { name = (codes "y"); scope = (scope.Local (record { 0 = 0 })); named = (named.Var (record { 0 = 0 })) }) ∷
      (record { name = (codes "i"); scope = (scope.Local (record { 0 = 0 })); named = (named.Var (record { 0 = 1 })) }) ∷
      (record { name = (codes "l"); scope = (scope.Local (record { 0 = 0 })); named = (named.Var (record { 0 = 2 })) }) ∷
      (record { name = (codes "c"); scope = (scope.Local (record { 0 = 0 })); named = (named.Var (record { 0 = 3 })) }) ∷
      (record { name = (codes "s"); scope = (scope.Local (record { 0 = 0 })); named = (named.Var (record { 0 = 4 })) }) ∷ []);
  vars = (
      (record {
        name = (codes "y");
        place = (record { file = 1; line = 2 });
        statement = 1;
        owner = (owner.Local (record {
          0
              = 0;
        }));
        ty = types.byte;
        named = types.byte;
        qualified = false;
        lettered = None;
        bounds = ([]);
        auto = false;
        preset
            = None;
      }) ∷
      (record {
        name = (codes "i");
        place = (record { file = 1; line = 2 });
        statement = 1;
        owner = (owner.Local (record {
          0
              = 0;
        }));
        ty = types.integer;
        named = types.integer;
        qualified = false;
        lettered = None;
        bounds = ([]);
        auto = false;
        preset
            = None;
      }) ∷
      (record {
        name = (codes "l");
        place = (record { file = 1; line = 2 });
        statement = 1;
        owner = (owner.Local (record {
          0
              = 0;
        }));
        ty = types.long;
        named = types.long;
        qualified = false;
        lettered = None;
        bounds = ([]);
        auto = false;
        preset
            = None;
      }) ∷
      (record {
        name = (codes "c");
        place = (record { file = 1; line = 2 });
        statement = 1;
        owner = (owner.Local (record {
          0
              = 0;
        }));
        ty = types.currency;
        named = types.currency;
        qualified = false;
        lettered = None;
        bounds = ([]);
        auto = false;
        preset = None;
      }) ∷
      (record {
        name = (codes "s");
        place = (record { file = 1; line = 2 });
        statement = 1;
        owner = (owner.Local (record {
          0
              = 0;
        }));
        ty = types.str;
        named = types.str;
        qualified = false;
        lettered = None;
        bounds = ([]);
        auto = false;
        preset =
            None;
      }) ∷ []);
  consts = ([]);
  procs = (
      (record {
        name = (codes "Main");
        place = (record { file = 1; line = 1 });
        module_number = 1;
        kind = kind.Sub;
        visibility
            = visible.Public;
        params = ([]);
        result = types.nothing;
        answer = None;
        first = (record { 0 = 0 });
      }) ∷ []);
  types = ([]);
  enums = ([]);
  defaults = ([]);
})

abbrev pub body_0 : List bound.Line
body_0 = (
    (record {
      source = (record {
        place = (record { file = 1; line = 3 });
        text = (68 ∷ 101 ∷ 98 ∷ 117 ∷ 103 ∷ 46 ∷ 80 ∷ 114
            ∷ 105 ∷ 110 ∷ 116 ∷ 32 ∷ 34 ∷ 98 ∷ 101 ∷ 102 ∷ 111 ∷ 114 ∷ 101 ∷ 34 ∷ []);
        form = (vb.debug_print ((vb.lit (literal.Str
            (codes "before"))) ∷ []) false);
      });
      bindings = (record {
        exprs = ((bound.typed types.str (bound.constant (value.Str (codes
            "before")) origin.Literal)) ∷ []);
        rules = (record { bits = 0 });
        mentions = ([]);
      });
    }) ∷
    (record {
      source = (record {
        place = (record { file = 1; line = 4 });
        text = (codes "l = 5");
        form = (vb.assign (vb.word
            (codes "l") suffix.Absent) (vb.lit (literal.Int (pos 5) false)));
      });
      bindings = (record {
        exprs = ((bound.typed types.long
            (bound.variable (record { 0 = 2 }) false)) ∷ (bound.typed types.long (bound.convert types.long (bound.typed types.integer
            (bound.constant (value.Int (pos 5)) origin.Literal)))) ∷ []);
        rules = (record { bits = 0 });
        mentions = ((mention.Var
            (record { 0 = 2 })) ∷ []);
      });
    }) ∷
    (record {
      source = (record {
        place = (record { file = 1; line = 5 });
        text = (108 ∷ 32 ∷ 61 ∷ 32 ∷ 108 ∷ 32 ∷ 92 ∷ 32
            ∷ 105 ∷ []);
        form = (vb.assign (vb.word (codes "l") suffix.Absent) (vb.binary bin.IntDiv (vb.word (codes "l") suffix.Absent)
            (vb.word (codes "i") suffix.Absent)));
      });
      bindings = (record {
        exprs = ((bound.typed types.long (bound.variable (record
            { 0 = 2 }) false)) ∷ (bound.typed types.long (bound.binary bin.IntDiv (bound.typed types.long (bound.variable (record
            { 0 = 2 }) false)) (bound.typed types.long (bound.convert types.long (bound.typed types.integer (bound.variable (record
            { 0 = 1 }) false)))))) ∷ []);
        rules = (record { bits = 0 });
        mentions = ((mention.Var (record { 0 = 2 })) ∷ (mention.Var
            (record { 0 = 2 })) ∷ (mention.Var (record { 0 = 1 })) ∷ []);
      });
    }) ∷
    (record {
      source = (record {
        place = (record { file = 1; line = 6 });
        text = (68 ∷ 101 ∷ 98 ∷ 117 ∷ 103 ∷ 46 ∷ 80 ∷ 114
            ∷ 105 ∷ 110 ∷ 116 ∷ 32 ∷ 34 ∷ 97 ∷ 102 ∷ 116 ∷ 101 ∷ 114 ∷ 34 ∷ []);
        form = (vb.debug_print ((vb.lit (literal.Str (codes
            "after"))) ∷ []) false);
      });
      bindings = (record {
        exprs = ((bound.typed types.str (bound.constant (value.Str (codes "after"))
            origin.Literal)) ∷ []);
        rules = (record { bits = 0 });
        mentions = ([]);
      });
    }) ∷ [])

abbrev pub bodies : List (List bound.Line)
bodies = body_0 ∷ []

abbrev pub program : bound.Program
program = record { declarations = declarations; bodies = bodies }

abbrev pub quiet : List (List Bool)
quiet = (([]) ∷ [])

abbrev pub lows : List (VarId × ℤ × ℤ)
lows = ([])

abbrev pub clean : List Bool
clean = (true ∷ [])

abbrev pub written : net.Project
written = (record {
  library = false;
  main = (Some (codes "Main1"));
  note = None;
  modules = ((record {
    name = (codes "Main1");
    class = false;
    members = (
        (net.proc (record {
          head = (net.sub net_visible.Public (codes "Main") ([]));
          prologue = (
              (net.local (record { name = (codes "y"); ty = net_types.byte; value = None })) ∷
              (net.local (record { name = (codes "i"); ty = net_types.short; value = None })) ∷
              (net.local (record { name = (codes "l"); ty = net_types.integer; value = None })) ∷
              (net.local (record { name = (codes "c"); ty = net_types.decimal; value = None })) ∷
              (net.local (record { name = (codes "s"); ty = net_types.str; value = None })) ∷ []);
          lines = (
              (net.call (net.path ((codes "UpgradeSupport") ∷ (codes "PrintLine") ∷ [])) (net.next_exp (net.lit (net.str (codes "before")))
              net.no_exps)) ∷
              (net.assign (net.path ((codes "l") ∷ [])) (net.lit (net.integer (pos 5) false))) ∷
              (net.assign (net.path ((codes "l") ∷ [])) (net.binary net_bin.IntDiv (net.path ((codes "l") ∷ [])) (net.cast cast.CInt
              (net.path ((codes "i") ∷ []))))) ∷
              (net.call (net.path ((codes "UpgradeSupport") ∷ (codes "PrintLine") ∷ [])) (net.next_exp (net.lit (net.str (codes "after")))
              net.no_exps)) ∷ []);
          close = close.EndSub;
        })) ∷ []);
  }) ∷ []);
  support = (record {
    name = (codes "UpgradeSupport");
    class
        = false;
    members = (
        (net.proc (record {
          head = (net.sub net_visible.Public (codes "PrintLine") ((record {
            passing = net_passing.Value;
            name
                = (codes "s");
            ty = net_types.str;
          }) ∷ []));
          prologue = ([]);
          lines = (
              (net.call (net.path ((codes "System") ∷ (codes "Console") ∷ (codes "WriteLine") ∷ [])) (net.next_exp (net.path ((codes
              "s") ∷ [])) net.no_exps)) ∷ []);
          close = close.EndSub;
        })) ∷ []);
  });
})

abbrev pub runnable : Runnable
runnable = runnable_of program quiet lows

said : ran runnable 0 2000 ≡
    (line (codes "before"), raised 11)
unfolding digits
said = refl
