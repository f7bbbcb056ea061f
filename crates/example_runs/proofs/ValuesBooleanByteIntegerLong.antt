-- The program values-boolean-byte-integer-long, what it puts out and how it ends.
use Rattle.std.proofs.Common.{◌≡◌, refl, ◌++◌, List, ℤ, pos, Bool, true, false, [], ◌∷◌, codes, Some, None}
use Rattle.vb_tree.specs.declared.declared.VarId.{VarId}
use Rattle.bound_tree.specs.Tree as bound
use Rattle.net_tree.specs.Tree as net
use Rattle.net_tree.specs.Types as net_types
use Rattle.vb_tree.specs.BoundTree as types
use Rattle.vb_tree.specs.Tree as vb
use Rattle.net_tree.specs.declared.expression.CastWord.TheVariants as cast
use Rattle.net_tree.specs.declared.declaration.NetClose.TheVariants as close
use Rattle.vb_tree.specs.declared.declared.ProcKind.TheVariants as kind
use Rattle.vb_tree.specs.declared.token.Literal6.TheVariants as literal
use Rattle.bound_tree.specs.declared.body.Mention.TheVariants as mention
use Rattle.bound_tree.specs.declared.declared.Named.TheVariants as named
use Rattle.net_tree.specs.declared.expression.NetBin.TheVariants as net_bin
use Rattle.net_tree.specs.declared.declaration.NetPassing.TheVariants as net_passing
use Rattle.net_tree.specs.declared.expression.NetUn.TheVariants as net_un
use Rattle.net_tree.specs.declared.declaration.NetVisibility.TheVariants as net_visible
use Rattle.bound_tree.specs.declared.expression.Origin.TheVariants as origin
use Rattle.vb_tree.specs.declared.declared.Owner.TheVariants as owner
use Rattle.vb_tree.specs.declared.project.ProjectKind.TheVariants as project_kind
use Rattle.bound_tree.specs.declared.declared.Scope.TheVariants as scope
use Rattle.vb_tree.specs.declared.token.Suffix.TheVariants as suffix
use Rattle.vb_tree.specs.declared.expression.UnOp.TheVariants as un
use Rattle.vb_tree.specs.declared.value.Value6.TheVariants as value
use Rattle.vb_tree.specs.declared.form_parts.VarWord.TheVariants as var
use Rattle.vb_tree.specs.declared.form_parts.Visibility.TheVariants as visible
use Rattle.std.specs.Fmt.{digits}
use Rattle.example_runs.proofs.Said.{ended, line, ran, runnable_of}
use Rattle.vb6_run.specs.Runnables.{Runnable}
use Rattle.vb6_meaning.specs.Bits.{from_bits}

abbrev pub project : vb.Project
project = (record {
  file = (record {
    kind = project_kind.Exe;
    startup = (Some (3, (codes "Sub Main")));
    entries = ((record
        { line = 2; class = false; name = (codes "Main1"); file = (codes "Main1.bas") }) ∷ []);
    dropped = ([]);
  });
  modules = ((record {
    file = 1;
    name = (codes "Main1");
    class = false;
    members = (
        (vb.proc (record {
          place = (record { file = 1; line = 1 });
          text = (codes "Sub Main()");
          form = (vb.sub_head (record {
            visibility = None;
            name = (codes "Main");
            suffix = suffix.Absent;
            params = ([]);
          }));
        }) (vb.next_node
        (vb.line (record {
          place = (record { file = 1; line = 2 });
          text = (codes "Dim b As Boolean, y As Byte, i As Integer, l As Long");
          form = (vb.variables var.Dim ((record {
            name = (codes "b");
            suffix = suffix.Absent;
            bounds = None;
            auto = false;
            ty =
                (Some (vb.named (codes "Boolean")));
          }) ∷ (record {
            name = (codes "y");
            suffix = suffix.Absent;
            bounds = None;
            auto = false;
            ty = (Some (vb.named (codes "Byte")));
          }) ∷ (record {
            name = (codes "i");
            suffix = suffix.Absent;
            bounds = None;
            auto =
                false;
            ty = (Some (vb.named (codes "Integer")));
          }) ∷ (record {
            name = (codes "l");
            suffix = suffix.Absent;
            bounds = None;
            auto = false;
            ty = (Some (vb.named (codes "Long")));
          }) ∷ []));
        })) (vb.next_node
        (vb.line (record {
          place = (record { file = 1; line = 3 });
          text = (codes "b = True");
          form = (vb.assign (vb.word (codes
              "b") suffix.Absent) (vb.word (codes "True") suffix.Absent));
        })) (vb.next_node
        (vb.line (record {
          place = (record { file = 1; line = 4 });
          text = (codes "y = b");
          form = (vb.assign (vb.word (codes
              "y") suffix.Absent) (vb.word (codes "b") suffix.Absent));
        })) (vb.next_node
        (vb.line (record {
          place = (record { file = 1; line = 5 });
          text = (codes "i = b");
          form = (vb.assign (vb.word (codes
              "i") suffix.Absent) (vb.word (codes "b") suffix.Absent));
        })) (vb.next_node
        (vb.line (record {
          place = (record { file = 1; line = 6 });
          text = (codes "l = b");
          form = (vb.assign (vb.word (codes
              "l") suffix.Absent) (vb.word (codes "b") suffix.Absent));
        })) (vb.next_node
        (vb.line (record {
          place = (record { file = 1; line = 7 });
          text = (codes "Debug.Print b; y; i; l");
          form = (vb.debug_print
              ((vb.word (codes "b") suffix.Absent) ∷ (vb.word (codes "y") suffix.Absent) ∷ (vb.word (codes "i") suffix.Absent) ∷ (vb.word
              (codes "l") suffix.Absent) ∷ []) false);
        })) (vb.next_node
        (vb.line (record {
          place = (record { file = 1; line = 8 });
          text = (codes "b = 5");
          form = (vb.assign (vb.word (codes
              "b") suffix.Absent) (vb.lit (literal.Int (pos 5) false)));
        })) (vb.next_node
        (vb.line (record {
          place = (record { file = 1; line = 9 });
          text = (codes "y = 255");
          form = (vb.assign (vb.word (codes
              "y") suffix.Absent) (vb.lit (literal.Int (pos 255) false)));
        })) (vb.next_node
        (vb.line (record {
          place = (record { file = 1; line = 10 });
          text = (codes "i = y");
          form = (vb.assign (vb.word (codes
              "i") suffix.Absent) (vb.word (codes "y") suffix.Absent));
        })) (vb.next_node
        (vb.line (record {
          place = (record { file = 1; line = 11 });
          text = (codes "l = i");
          form = (vb.assign (vb.word (codes
              "l") suffix.Absent) (vb.word (codes "i") suffix.Absent));
        })) (vb.next_node
        (vb.line (record {
          place = (record { file = 1; line = 12 });
          text = (codes "Debug.Print b; y; i; l");
          form = (vb.debug_print
              ((vb.word (codes "b") suffix.Absent) ∷ (vb.word (codes "y") suffix.Absent) ∷ (vb.word (codes "i") suffix.Absent) ∷ (vb.word
              (codes "l") suffix.Absent) ∷ []) false);
        })) (vb.next_node
        (vb.line (record {
          place = (record { file = 1; line = 13 });
          text = (codes "b = 0");
          form = (vb.assign (vb.word (codes
              "b") suffix.Absent) (vb.lit (literal.Int (pos 0) false)));
        })) (vb.next_node
        (vb.line (record {
          place = (record { file = 1; line = 14 });
          text = (codes "Debug.Print b; Not b; Not i; -i");
          form
              = (vb.debug_print ((vb.word (codes "b") suffix.Absent) ∷ (vb.unary un.Not (vb.word (codes "b") suffix.Absent)) ∷ (vb.unary
              un.Not (vb.word (codes "i") suffix.Absent)) ∷ (vb.unary un.Neg (vb.word (codes "i") suffix.Absent)) ∷ []) false);
        })) vb.no_nodes)))))))))))))
        (record { place = (record { file = 1; line = 15 }); text = (codes "End Sub"); form = vb.end_sub })) ∷ []);
    comments =
        ([]);
  }) ∷ []);
})

abbrev pub declarations : bound.Declarations
declarations = (record {
  project = project;
  names = (
      (record { name = (codes "Main"); scope = (scope.Public 1); named = (named.Proc (record { 0 = 0 })) }) ∷
      (record { name = (codes "b"); scope = (scope.Local (record { 0 = 0 })); named = (named.Var (record { 0 = 0 })) }) ∷
      (record { name = (codes "y"); scope = (scope.Local (record { 0 = 0 })); named = (named.Var (record { 0 = 1 })) }) ∷
      (record { name = (codes "i"); scope = (scope.Local (record { 0 = 0 })); named = (named.Var (record { 0 = 2 })) }) ∷
      (record { name = (codes "l"); scope = (scope.Local (record { 0 = 0 })); named = (named.Var (record { 0 = 3 })) }) ∷ []);
  vars = (
      (record {
        name = (codes "b");
        place = (record { file = 1; line = 2 });
        statement = 1;
        owner = (owner.Local (record {
          0
              = 0;
        }));
        ty = types.boolean;
        named = types.boolean;
        qualified = false;
        lettered = None;
        bounds = ([]);
        auto = false;
        preset
            = None;
      }) ∷
      (record {
        name = (codes "y");
        place = (record { file = 1; line = 2 });
        statement = 1;
        owner = (owner.Local (record {
          0
              = 0;
        }));
        ty = types.byte;
        named = types.byte;
        qualified = false;
        lettered = None;
        bounds = ([]);
        auto = false;
        preset
            = None;
      }) ∷
      (record {
        name = (codes "i");
        place = (record { file = 1; line = 2 });
        statement = 1;
        owner = (owner.Local (record {
          0
              = 0;
        }));
        ty = types.integer;
        named = types.integer;
        qualified = false;
        lettered = None;
        bounds = ([]);
        auto = false;
        preset
            = None;
      }) ∷
      (record {
        name = (codes "l");
        place = (record { file = 1; line = 2 });
        statement = 1;
        owner = (owner.Local (record {
          0
              = 0;
        }));
        ty = types.long;
        named = types.long;
        qualified = false;
        lettered = None;
        bounds = ([]);
        auto = false;
        preset
            = None;
      }) ∷ []);
  consts = ([]);
  procs = (
      (record {
        name = (codes "Main");
        place = (record { file = 1; line = 1 });
        module_number = 1;
        kind = kind.Sub;
        visibility
            = visible.Public;
        params = ([]);
        result = types.nothing;
        answer = None;
        first = (record { 0 = 0 });
      }) ∷ []);
  types = ([]);
  enums = ([]);
  defaults = ([]);
})

abbrev pub body_0 : List bound.Line
body_0 = (
    (record {
      source = (record {
        place = (record { file = 1; line = 3 });
        text = (codes "b = True");
        form = (vb.assign (vb.word
            (codes "b") suffix.Absent) (vb.word (codes "True") suffix.Absent));
      });
      bindings = (record {
        exprs = ((bound.typed types.boolean
            (bound.variable (record { 0 = 0 }) false)) ∷ (bound.typed types.boolean (bound.constant (value.Boolean true) origin.Literal))
            ∷ []);
        rules = (record { bits = 0 });
        mentions = ((mention.Var (record { 0 = 0 })) ∷ []);
      });
    }) ∷
    (record {
      source = (record {
        place = (record { file = 1; line = 4 });
        text = (codes "y = b");
        form = (vb.assign (vb.word
            (codes "y") suffix.Absent) (vb.word (codes "b") suffix.Absent));
      });
      bindings = (record {
        exprs = ((bound.typed types.byte
            (bound.variable (record { 0 = 1 }) false)) ∷ (bound.typed types.byte (bound.convert types.byte (bound.typed types.boolean
            (bound.variable (record { 0 = 0 }) false)))) ∷ []);
        rules = (record { bits = 0 });
        mentions = ((mention.Var (record {
          0 = 1;
        })) ∷ (mention.Var (record { 0 = 0 })) ∷ []);
      });
    }) ∷
    (record {
      source = (record {
        place = (record { file = 1; line = 5 });
        text = (codes "i = b");
        form = (vb.assign (vb.word
            (codes "i") suffix.Absent) (vb.word (codes "b") suffix.Absent));
      });
      bindings = (record {
        exprs = ((bound.typed types.integer
            (bound.variable (record { 0 = 2 }) false)) ∷ (bound.typed types.integer (bound.convert types.integer (bound.typed types.boolean
            (bound.variable (record { 0 = 0 }) false)))) ∷ []);
        rules = (record { bits = 0 });
        mentions = ((mention.Var (record {
          0 = 2;
        })) ∷ (mention.Var (record { 0 = 0 })) ∷ []);
      });
    }) ∷
    (record {
      source = (record {
        place = (record { file = 1; line = 6 });
        text = (codes "l = b");
        form = (vb.assign (vb.word
            (codes "l") suffix.Absent) (vb.word (codes "b") suffix.Absent));
      });
      bindings = (record {
        exprs = ((bound.typed types.long
            (bound.variable (record { 0 = 3 }) false)) ∷ (bound.typed types.long (bound.convert types.long (bound.typed types.boolean
            (bound.variable (record { 0 = 0 }) false)))) ∷ []);
        rules = (record { bits = 0 });
        mentions = ((mention.Var (record {
          0 = 3;
        })) ∷ (mention.Var (record { 0 = 0 })) ∷ []);
      });
    }) ∷
    (record {
      source = (record {
        place = (record { file = 1; line = 7 });
        text = (codes "Debug.Print b; y; i; l");
        form =
            (vb.debug_print ((vb.word (codes "b") suffix.Absent) ∷ (vb.word (codes "y") suffix.Absent) ∷ (vb.word (codes "i") suffix.Absent)
            ∷ (vb.word (codes "l") suffix.Absent) ∷ []) false);
      });
      bindings = (record {
        exprs = ((bound.typed types.boolean (bound.variable
            (record { 0 = 0 }) false)) ∷ (bound.typed types.byte (bound.variable (record { 0 = 1 }) false)) ∷ (bound.typed types.integer
            (bound.variable (record { 0 = 2 }) false)) ∷ (bound.typed types.long (bound.variable (record { 0 = 3 }) false)) ∷ []);
        rules = (record { bits = 0 });
        mentions = ((mention.Var (record { 0 = 0 })) ∷ (mention.Var (record { 0 = 1 })) ∷ (mention.Var
            (record { 0 = 2 })) ∷ (mention.Var (record { 0 = 3 })) ∷ []);
      });
    }) ∷
    (record {
      source = (record {
        place = (record { file = 1; line = 8 });
        text = (codes "b = 5");
        form = (vb.assign (vb.word
            (codes "b") suffix.Absent) (vb.lit (literal.Int (pos 5) false)));
      });
      bindings = (record {
        exprs = ((bound.typed types.boolean
            (bound.variable (record { 0 = 0 }) false)) ∷ (bound.typed types.boolean (bound.convert types.boolean (bound.typed types.integer
            (bound.constant (value.Int (pos 5)) origin.Literal)))) ∷ []);
        rules = (record { bits = 0 });
        mentions = ((mention.Var
            (record { 0 = 0 })) ∷ []);
      });
    }) ∷
    (record {
      source = (record {
        place = (record { file = 1; line = 9 });
        text = (codes "y = 255");
        form = (vb.assign (vb.word
            (codes "y") suffix.Absent) (vb.lit (literal.Int (pos 255) false)));
      });
      bindings = (record {
        exprs = ((bound.typed types.byte
            (bound.variable (record { 0 = 1 }) false)) ∷ (bound.typed types.byte (bound.convert types.byte (bound.typed types.integer
            (bound.constant (value.Int (pos 255)) origin.Literal)))) ∷ []);
        rules = (record { bits = 0 });
        mentions = ((mention.Var
            (record { 0 = 1 })) ∷ []);
      });
    }) ∷
    (record {
      source = (record {
        place = (record { file = 1; line = 10 });
        text = (codes "i = y");
        form = (vb.assign (vb.word
            (codes "i") suffix.Absent) (vb.word (codes "y") suffix.Absent));
      });
      bindings = (record {
        exprs = ((bound.typed types.integer
            (bound.variable (record { 0 = 2 }) false)) ∷ (bound.typed types.integer (bound.convert types.integer (bound.typed types.byte
            (bound.variable (record { 0 = 1 }) false)))) ∷ []);
        rules = (record { bits = 0 });
        mentions = ((mention.Var (record {
          0 = 2;
        })) ∷ (mention.Var (record { 0 = 1 })) ∷ []);
      });
    }) ∷
    (record {
      source = (record {
        place = (record { file = 1; line = 11 });
        text = (codes "l = i");
        form = (vb.assign (vb.word
            (codes "l") suffix.Absent) (vb.word (codes "i") suffix.Absent));
      });
      bindings = (record {
        exprs = ((bound.typed types.long
            (bound.variable (record { 0 = 3 }) false)) ∷ (bound.typed types.long (bound.convert types.long (bound.typed types.integer
            (bound.variable (record { 0 = 2 }) false)))) ∷ []);
        rules = (record { bits = 0 });
        mentions = ((mention.Var (record {
          0 = 3;
        })) ∷ (mention.Var (record { 0 = 2 })) ∷ []);
      });
    }) ∷
    (record {
      source = (record {
        place = (record { file = 1; line = 12 });
        text = (codes "Debug.Print b; y; i; l");
        form =
            (vb.debug_print ((vb.word (codes "b") suffix.Absent) ∷ (vb.word (codes "y") suffix.Absent) ∷ (vb.word (codes "i") suffix.Absent)
            ∷ (vb.word (codes "l") suffix.Absent) ∷ []) false);
      });
      bindings = (record {
        exprs = ((bound.typed types.boolean (bound.variable
            (record { 0 = 0 }) false)) ∷ (bound.typed types.byte (bound.variable (record { 0 = 1 }) false)) ∷ (bound.typed types.integer
            (bound.variable (record { 0 = 2 }) false)) ∷ (bound.typed types.long (bound.variable (record { 0 = 3 }) false)) ∷ []);
        rules = (record { bits = 0 });
        mentions = ((mention.Var (record { 0 = 0 })) ∷ (mention.Var (record { 0 = 1 })) ∷ (mention.Var
            (record { 0 = 2 })) ∷ (mention.Var (record { 0 = 3 })) ∷ []);
      });
    }) ∷
    (record {
      source = (record {
        place = (record { file = 1; line = 13 });
        text = (codes "b = 0");
        form = (vb.assign (vb.word
            (codes "b") suffix.Absent) (vb.lit (literal.Int (pos 0) false)));
      });
      bindings = (record {
        exprs = ((bound.typed types.boolean
            (bound.variable (record { 0 = 0 }) false)) ∷ (bound.typed types.boolean (bound.convert types.boolean (bound.typed types.integer
            (bound.constant (value.Int (pos 0)) origin.Literal)))) ∷ []);
        rules = (record { bits = 0 });
        mentions = ((mention.Var
            (record { 0 = 0 })) ∷ []);
      });
    }) ∷
    (record {
      source = (record {
        place = (record { file = 1; line = 14 });
        text = (codes "Debug.Print b; Not b; Not i; -i");
        form = (vb.debug_print ((vb.word (codes "b") suffix.Absent) ∷ (vb.unary un.Not (vb.word (codes "b") suffix.Absent)) ∷
            (vb.unary un.Not (vb.word (codes "i") suffix.Absent)) ∷ (vb.unary un.Neg (vb.word (codes "i") suffix.Absent)) ∷ []) false);
      });
      bindings = (record {
        exprs = ((bound.typed types.boolean (bound.variable (record { 0 = 0 }) false)) ∷ (bound.typed
            types.boolean (bound.unary un.Not (bound.typed types.boolean (bound.variable (record { 0 = 0 }) false)))) ∷ (bound.typed
            types.integer (bound.unary un.Not (bound.typed types.integer (bound.variable (record { 0 = 2 }) false)))) ∷ (bound.typed
            types.integer (bound.unary un.Neg (bound.typed types.integer (bound.variable (record { 0 = 2 }) false)))) ∷ []);
        rules
            = (record { bits = 0 });
        mentions = ((mention.Var (record { 0 = 0 })) ∷ (mention.Var (record { 0 = 0 })) ∷ (mention.Var
            (record { 0 = 2 })) ∷ (mention.Var (record { 0 = 2 })) ∷ []);
      });
    }) ∷ [])

abbrev pub bodies : List (List bound.Line)
bodies = body_0 ∷ []

abbrev pub program : bound.Program
program = record { declarations = declarations; bodies = bodies }

abbrev pub quiet : List (List Bool)
quiet = (([]) ∷ [])

abbrev pub lows : List (VarId × ℤ × ℤ)
lows = ([])

abbrev pub clean : List Bool
clean = (true ∷ [])

abbrev pub written : net.Project
written = (record {
  library = false;
  main = (Some (codes "Main1"));
  note = None;
  modules = ((record {
    name = (codes "Main1");
    class = false;
    members = (
        (net.proc (record {
          head = (net.sub net_visible.Public (codes "Main") ([]));
          prologue = (
              (net.local (record { name = (codes "b"); ty = net_types.boolean; value = None })) ∷
              (net.local (record { name = (codes "y"); ty = net_types.byte; value = None })) ∷
              (net.local (record { name = (codes "i"); ty = net_types.short; value = None })) ∷
              (net.local (record { name = (codes "l"); ty = net_types.integer; value = None })) ∷ []);
          lines = (
              (net.assign (net.path ((codes "b") ∷ [])) (net.lit (net.boolean true))) ∷
              (net.assign (net.path ((codes "y") ∷ [])) (net.cast cast.CByte (net.path ((codes "b") ∷ [])))) ∷
              (net.assign (net.path ((codes "i") ∷ [])) (net.cast cast.CShort (net.path ((codes "b") ∷ [])))) ∷
              (net.assign (net.path ((codes "l") ∷ [])) (net.cast cast.CInt (net.path ((codes "b") ∷ [])))) ∷
              (net.call (net.path ((codes "UpgradeSupport") ∷ (codes "PrintLine") ∷ [])) (net.next_exp (net.binary net_bin.Concat (net.binary
              net_bin.Concat (net.binary net_bin.Concat (net.cast cast.CStr (net.path ((codes "b") ∷ []))) (net.call_of (net.path ((codes
              "UpgradeSupport") ∷ (codes "PrintNum") ∷ [])) (net.next_exp (net.cast cast.CDec (net.path ((codes "y") ∷ []))) net.no_exps)))
              (net.call_of (net.path ((codes "UpgradeSupport") ∷ (codes "PrintNum") ∷ [])) (net.next_exp (net.cast cast.CDec (net.path
              ((codes "i") ∷ []))) net.no_exps))) (net.call_of (net.path ((codes "UpgradeSupport") ∷ (codes "PrintNum") ∷ [])) (net.next_exp
              (net.cast cast.CDec (net.path ((codes "l") ∷ []))) net.no_exps))) net.no_exps)) ∷
              (net.assign (net.path ((codes "b") ∷ [])) (net.cast cast.CBool (net.lit (net.short (pos 5) false)))) ∷
              (net.assign (net.path ((codes "y") ∷ [])) (net.cast cast.CByte (net.lit (net.short (pos 255) false)))) ∷
              (net.assign (net.path ((codes "i") ∷ [])) (net.cast cast.CShort (net.path ((codes "y") ∷ [])))) ∷
              (net.assign (net.path ((codes "l") ∷ [])) (net.cast cast.CInt (net.path ((codes "i") ∷ [])))) ∷
              (net.call (net.path ((codes "UpgradeSupport") ∷ (codes "PrintLine") ∷ [])) (net.next_exp (net.binary net_bin.Concat (net.binary
              net_bin.Concat (net.binary net_bin.Concat (net.cast cast.CStr (net.path ((codes "b") ∷ []))) (net.call_of (net.path ((codes
              "UpgradeSupport") ∷ (codes "PrintNum") ∷ [])) (net.next_exp (net.cast cast.CDec (net.path ((codes "y") ∷ []))) net.no_exps)))
              (net.call_of (net.path ((codes "UpgradeSupport") ∷ (codes "PrintNum") ∷ [])) (net.next_exp (net.cast cast.CDec (net.path
              ((codes "i") ∷ []))) net.no_exps))) (net.call_of (net.path ((codes "UpgradeSupport") ∷ (codes "PrintNum") ∷ [])) (net.next_exp
              (net.cast cast.CDec (net.path ((codes "l") ∷ []))) net.no_exps))) net.no_exps)) ∷
              (net.assign (net.path ((codes "b") ∷ [])) (net.cast cast.CBool (net.lit (net.short (pos 0) false)))) ∷
              (net.call (net.path ((codes "UpgradeSupport") ∷ (codes "PrintLine") ∷ [])) (net.next_exp (net.binary net_bin.Concat (net.binary
              net_bin.Concat (net.binary net_bin.Concat (net.cast cast.CStr (net.path ((codes "b") ∷ []))) (net.cast cast.CStr (net.unary
              net_un.Not (net.path ((codes "b") ∷ []))))) (net.call_of (net.path ((codes "UpgradeSupport") ∷ (codes "PrintNum") ∷ []))
              (net.next_exp (net.cast cast.CDec (net.unary net_un.Not (net.path ((codes "i") ∷ [])))) net.no_exps))) (net.call_of (net.path
              ((codes "UpgradeSupport") ∷ (codes "PrintNum") ∷ [])) (net.next_exp (net.cast cast.CDec (net.unary net_un.Neg (net.path
              ((codes "i") ∷ [])))) net.no_exps))) net.no_exps)) ∷ []);
          close = close.EndSub;
        })) ∷ []);
  }) ∷ []);
  support = (record {
    name = (codes "UpgradeSupport");
    class = false;
    members = (
        (net.proc (record {
          head = (net.sub net_visible.Public (codes "PrintLine") ((record {
            passing = net_passing.Value;
            name
                = (codes "s");
            ty = net_types.str;
          }) ∷ []));
          prologue = ([]);
          lines = (
              (net.call (net.path ((codes "System") ∷ (codes "Console") ∷ (codes "WriteLine") ∷ [])) (net.next_exp (net.path ((codes
              "s") ∷ [])) net.no_exps)) ∷ []);
          close = close.EndSub;
        })) ∷
        (net.proc (record {
          head = (net.function net_visible.Public (codes "CurText") ((record {
            passing = net_passing.Value;
            name = (codes "d");
            ty = net_types.decimal;
          }) ∷ []) net_types.str);
          prologue = ([]);
          lines = (
              (net.assign (net.path ((codes "CurText") ∷ [])) (net.call_of (net.path ((codes "d") ∷ (codes "ToString") ∷ [])) (net.next_exp
              (net.lit (net.str (codes "0.####"))) (net.next_exp (net.path ((codes "System") ∷ (codes "Globalization") ∷ (codes "CultureInfo")
              ∷ (codes "InvariantCulture") ∷ [])) net.no_exps)))) ∷ []);
          close = close.EndFunction;
        })) ∷
        (net.proc (record {
          head = (net.function net_visible.Public (codes "PrintNum") ((record {
            passing = net_passing.Value;
            name = (codes "d");
            ty = net_types.decimal;
          }) ∷ []) net_types.str);
          prologue = ([]);
          lines = (
              (net.if_head (net.binary net_bin.Less (net.path ((codes "d") ∷ [])) (net.lit (net.decimal (pos 0))))) ∷
              (net.assign (net.path ((codes "PrintNum") ∷ [])) (net.binary net_bin.Concat (net.call_of (net.path ((codes "CurText")
              ∷ [])) (net.next_exp (net.path ((codes "d") ∷ [])) net.no_exps)) (net.lit (net.str (codes " "))))) ∷
              net.else_line ∷
              (net.assign (net.path ((codes "PrintNum") ∷ [])) (net.binary net_bin.Concat (net.binary net_bin.Concat (net.lit (net.str
              (codes " "))) (net.call_of (net.path ((codes "CurText") ∷ [])) (net.next_exp (net.path ((codes "d") ∷ [])) net.no_exps)))
              (net.lit (net.str (codes " "))))) ∷
              net.end_if ∷ []);
          close = close.EndFunction;
        })) ∷ []);
  });
})

abbrev pub runnable : Runnable
runnable = runnable_of program quiet lows

said : ran runnable 0 2000 ≡ (
  line (codes "True 255 -1 -1 ")
      ++ line (codes "True 255  255  255 ")
      ++ line (codes "FalseTrue-256 -255 "),
  ended,
)
unfolding digits from_bits
said = refl
