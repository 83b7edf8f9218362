-- Two records of document 01's tables with the same fields are the same.
use Prim.Native.Nat.{ℕ}
use mathlib.Core.Path.{◌≡◌}
use mathlib.Core.List.{List}
use Rattle.rules.specs.declared.tables.Ulid.{Ulid}
use Rattle.rules.specs.declared.tables.Watermark.{Watermark}
use Rattle.rules.specs.declared.tables.Run.{Run}
use Rattle.rules.specs.declared.tables.Source.{Source}
use Rattle.rules.specs.Tables.{L0Row, Tree, Job}

pub ulid-eq : {a b c d : ℕ} → a ≡ c → b ≡ d → ◌≡◌ {A = Ulid} (record { high = a; low = b }) (record { high = c; low = d })
ulid-eq p q = λ i. record { high = p i; low = q i }

pub l0-eq : {u v x y : Ulid} {a b : ℕ} → u ≡ x → v ≡ y → a ≡ b → ◌≡◌ {A = L0Row} (record { view = u; sst = v; size = a }) (record { view = x; sst = y; size = b })
l0-eq p q r = λ i. record { view = p i; sst = q i; size = r i }

pub run-eq : {a b c d : ℕ} → a ≡ c → b ≡ d → ◌≡◌ {A = Run} (record { id = a; size = b }) (record { id = c; size = d })
run-eq p q = λ i. record { id = p i; size = q i }

pub watermark-eq : {a b c d : ℕ} {u v x y : Ulid} → a ≡ c → b ≡ d → u ≡ x → v ≡ y
    → ◌≡◌ {A = Watermark} (record { view_mark = a; sst_mark = b; view = u; sst = v }) (record { view_mark = c; sst_mark = d; view = x; sst = y })
watermark-eq p q r s = λ i. record { view_mark = p i; sst_mark = q i; view = r i; sst = s i }

pub tree-eq : {a b : ℕ} {u v : Watermark} {l m : List L0Row} {r s : List Run} → a ≡ b → u ≡ v → l ≡ m → r ≡ s
    → ◌≡◌ {A = Tree} (record { prefix = a; watermark = u; l0 = l; runs = r }) (record { prefix = b; watermark = v; l0 = m; runs = s })
tree-eq p q r s = λ i. record { prefix = p i; watermark = q i; l0 = r i; runs = s i }

pub source-eq : {a b c d : ℕ} {u v : Ulid} → a ≡ c → b ≡ d → u ≡ v → ◌≡◌ {A = Source} (record { mark = a; run = b; view = u }) (record { mark = c; run = d; view = v })
source-eq p q r = λ i. record { mark = p i; run = q i; view = r i }

pub job-eq : {u v : Ulid} {a b c d e f g h : ℕ} {x y : List Source} → u ≡ v → a ≡ b → c ≡ d → e ≡ f → g ≡ h → x ≡ y
    → ◌≡◌ {A = Job} (record { id = u; status = a; drain = c; prefix = e; destination = g; sources = x }) (record { id = v; status = b; drain = d; prefix = f; destination = h; sources = y })
job-eq p q r s t w = λ i. record { id = p i; status = q i; drain = r i; prefix = s i; destination = t i; sources = w i }
