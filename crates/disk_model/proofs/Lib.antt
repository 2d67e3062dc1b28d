pub mod CrashLaws
