-- What the adapters hold.
use Rattle.std.specs.Prelude.{ℕ}
use Rattle.fcg_bytes.specs.declared.host_files.HostFiles.{HostFiles}
use Rattle.fcg_bytes.specs.declared.standard.StdSource.{StdSource}
use Rattle.fcg_bytes.specs.declared.standard.StdSink.{StdSink}

-- the reader that a source reads from
abbrev pub source_reader : {R : Type 0} → StdSource R → R
source_reader s = s.reader

-- the source's count of faults
abbrev pub source_faults : {R : Type 0} → StdSource R → ℕ
source_faults s = s.faults

-- the writer that a sink writes to
abbrev pub sink_writer : {W : Type 0} → StdSink W → W
sink_writer s = s.writer

-- the sink's count of faults
abbrev pub sink_faults : {W : Type 0} → StdSink W → ℕ
sink_faults s = s.faults

-- the host's files' count of faults
abbrev pub files_faults : {R : Type 0} → HostFiles R → ℕ
files_faults s = s.faults
