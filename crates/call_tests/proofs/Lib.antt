pub mod CoreExamples
