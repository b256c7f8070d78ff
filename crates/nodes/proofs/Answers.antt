-- What a call answers where its test holds and where it fails. Assumes nothing.
use Rattle.std.specs.Prelude.{Ok, Err}
use mathlib.Core.Path.{◌≡◌, refl}
use mathlib.Core.Bool.{Bool, true, false, not, ◌&&◌}
use mathlib.Core.List.{List}
use Prim.Native.Nat.{ℕ, ◌≤◌, ◌<◌}
use borrow.Author.Tests.{lt-ltb, le-ltb}
use lib.Dec.{T}
use lib.ListN.{length, get_or}
use Rattle.integers.proofs.Tests.{T_true, T_false}
use Rattle.nodes.specs.declared.Node.{Node}
use Rattle.nodes.specs.Nodes.{no_node}
use Rattle.nodes.specs.Answers.{Reads, Writes}

-- ---- a read
module _ (nodes : List Node) (p : ℕ) where
  pub read_at : p < length nodes → Reads nodes p (Ok (get_or nodes p no_node))
  read_at l = record { answer = rw (lt-ltb p (length nodes) l) refl; number = rw (lt-ltb p (length nodes) l) refl }

  pub read_stray : length nodes ≤ p → Reads nodes p (Err (record {}))
  read_stray l = record { answer = rw (le-ltb p (length nodes) l) refl; number = rw (le-ltb p (length nodes) l) refl }

-- ---- a call that may write
module _ (sound : Bool) (written nodes : List Node) where
  pub done : T sound → (nodes' : List Node) → nodes' ≡ written → Writes sound written nodes (Ok tt) nodes'
  done t nodes' e = rw (T_true sound t) (record { answer = refl; number = refl; list = e })

  pub refused : T (not sound) → Writes sound written nodes (Err (record {})) nodes
  refused t = rw (T_false sound t) (record { answer = refl; number = refl; list = refl })

-- ---- both of two tests hold, or the first fails, or the second
pub both : (a b : Bool) → T a → T b → T (a && b)
both true b x y = y
both false b x y = x

pub not_first : (a b : Bool) → T (not a) → T (not (a && b))
not_first true b x = absurd x
not_first false b x = tt

pub not_second : (a b : Bool) → T (not b) → T (not (a && b))
not_second true b x = x
not_second false b x = tt
