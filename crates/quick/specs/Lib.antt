pub mod ExitCode
