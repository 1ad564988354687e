-- A text that is written to a sink through a buffer.
use Rattle.std.specs.Prelude.{◌≡◌, ℕ, ◌≤◌, List, [], ◌++◌, Bool, true, false, Option}
use Rattle.std.specs.String.{string_bytes}
use Rattle.std.specs.Io.KnownBytes.{Appends}
use Rattle.fcg_bytes.specs.Causes.{Rose}
use Rattle.fcg_bytes.specs.Objects.{Aside}
use Rattle.fcg_top.specs.declared.text_buffer.TextBuffer.{TextBuffer}
use Rattle.fcg_top.specs.Objects.{Output}

-- what a sink tells
abbrev pub sink_told : Option (List ℕ) → ℕ → Aside → Output
sink_told taken faults aside = record { taken = taken; faults = faults; aside = aside }

-- The bytes were written, and nothing failed; or a front of them was, since the sink failed, now or before.
pub record Writes (failed_old failed_new : Bool) (old new : Output) (bytes : List ℕ) : Type 0 where
  pub front : List ℕ
  pub rest : List ℕ
  pub parts : bytes ≡ front ++ rest
  pub took : Appends old.taken new.taken front
  pub whole : failed_new ≡ false → (failed_old ≡ false) × (rest ≡ [])
  pub cause : failed_new ≡ true → failed_old ≡ false → Rose old.faults new.faults
  pub stays : failed_old ≡ true → front ≡ []
  pub later : old.faults ≤ new.faults
  pub aside : new.aside ≡ old.aside

-- nothing waits, and nothing failed
abbrev pub IsFresh : TextBuffer → Type 0
IsFresh buffer = (string_bytes buffer.pending ≡ []) × (buffer.failed ≡ false)

-- Since the sink was at `start`, it took a front of the text. The rest waits in the buffer, unless the sink failed.
pub record Holds (start now : Output) (buffer : TextBuffer) (text : List ℕ) : Type 0 where
  pub front : List ℕ
  pub rest : List ℕ
  pub parts : text ≡ front ++ rest
  pub took : Appends start.taken now.taken front
  pub waits : buffer.failed ≡ false → string_bytes buffer.pending ≡ rest
  pub cause : buffer.failed ≡ true → Rose start.faults now.faults
  pub later : start.faults ≤ now.faults
  pub aside : now.aside ≡ start.aside

-- Whatever text the sink and the buffer held, they hold it and these bytes now.
pub record Sends (old : Output) (buffer_old : TextBuffer) (new : Output) (buffer_new : TextBuffer) (bytes : List ℕ) : Type 0 where
  pub sends : (start : Output) (text : List ℕ) → Holds start old buffer_old text → Holds start new buffer_new (text ++ bytes)
